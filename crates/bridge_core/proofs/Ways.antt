-- The ways of a frame as they are found, and as they are defined; and what every way has.
use Rattle.std.proofs.Common.{◌≡◌, ◌≢◌, ℕ, ◌<◌, Bool, true, false, ◌&&◌, not, [], length, filter, All, Contains, eq-eqb, refl, sym, ap, subst, ◌∙◌, arith}
use Rattle.std.specs.Prelude.{◌==◌, Option, Some, None}
use Rattle.std.specs.List.{range_with_len}
use Rattle.std.proofs.lemmas.List.Elements.{All-contains, All-filter, filter_passes}
use Rattle.std.proofs.lemmas.List.FromFn.{length-range_with_len, get_or-range_with_len}
use Rattle.std.proofs.lemmas.Bool.{true≢false}
use Rattle.frame_core.specs.declared.mac.Mac.{Mac}
use Rattle.frame_core.specs.declared.frame.FrameIn.{FrameIn}
use Rattle.frame_core.specs.declared.bpdu.Bpdu.{Bpdu}
use Rattle.rstp_rules.specs.declared.port.State.{State}
use Rattle.frame_core.specs.Octets.{same_mac}
use Rattle.rstp_settings.specs.Table.{IsPortOf}
use Rattle.bridge_core.specs.Bridge.{BridgeState, address_of, port_of, is_on}
use Rattle.bridge_core.specs.Statics.{listed}
use Rattle.bridge_core.specs.Forwarding.{is_reserved, forwards, may_go, goes_out, ports_where, egress_of}
use Rattle.bridge_core.specs.ForwardingInside.{is_way, goes_by}
use Rattle.bridge_core.specs.Events.{after_reception, after_learning, data_result, bpdu_result, reception_result, Framed, frame_result, GoesBetween}
use Rattle.bridge_core.proofs.Changes.{framed_on, framed_off}

-- the tests of a port that a frame goes out by, in the order in which they are made
in_order : (p q other free own way : Bool) → (q && other && (p && free && own && way)) ≡ (p && q && other && free && own && way)
in_order true true true free own way = refl
in_order true true false free own way = refl
in_order true false other free own way = refl
in_order false true true free own way = refl
in_order false true false free own way = refl
in_order false false other free own way = refl

-- a way that leads where frames to this destination may go is by the ports by which they go out
pub same_way : (b : BridgeState) (p : ℕ) (way : ℕ → Bool) (own : Mac) (at : State) (d : Mac) → ((q : ℕ) → way q ≡ is_way b.learned b.statics.rows own at p d q) → own ≡ address_of b → at ≡ (port_of b p).state → goes_by way p b.tree ≡ goes_out b p d
same_way b p way own at d h e g =
    ap (λ (w : ℕ → Bool). goes_by w p b.tree) (λ i q. h q i)
    ∙ (ap (λ (a : Mac). goes_by (is_way b.learned b.statics.rows a at p d) p b.tree) e ∙ (ap (λ (x : State). goes_by (is_way b.learned b.statics.rows (address_of b) x p d) p b.tree) g
    ∙ λ i q. in_order (forwards b p) (forwards b q) (not (q == p)) (not (is_reserved d)) (not (same_mac d (address_of b))) (may_go (listed b.statics.rows p d) b.learned d q) i))

both_true : (a b : Bool) → (a && b) ≡ true → (a ≡ true) × (b ≡ true)
both_true true b e = (refl, e)
both_true false b e = cc

differs : (q p : ℕ) → not (q == p) ≡ true → q ≢ p
differs q p h e = true≢false (sym (sym (ap not (eq-eqb q p e)) ∙ h))

all_within : (n : ℕ) → All (IsPortOf n) (range_with_len 1 n)
all_within n = λ k d h.
    let below : k < n = omega (arith, length-range_with_len 1 n) in
    rw (get_or-range_with_len 1 n k d below) (omega arith, omega arith)

-- the ports by which a frame goes out
egress_goes : (b : BridgeState) (p : ℕ) (d : Mac) (q : ℕ) → Contains (egress_of b p d) q → GoesBetween b p q
unfolding egress_of ports_where
egress_goes b p d q h =
    let count = length b.tree.ports in
    let goes : goes_out b p d q ≡ true = All-contains (λ (n : ℕ). goes_out b p d n ≡ true) (filter (goes_out b p d) (range_with_len 1 count)) q (filter_passes (goes_out b p d) (range_with_len 1 count)) h in
    let within : IsPortOf count q = All-contains (IsPortOf count) (filter (goes_out b p d) (range_with_len 1 count)) q (All-filter (goes_out b p d) (IsPortOf count) (range_with_len 1 count) (all_within count)) h in
    let way = both_true (forwards b p && forwards b q && not (q == p) && not (is_reserved d) && not (same_mac d b.tree.address)) _ goes in
    let away = both_true (forwards b p && forwards b q && not (q == p) && not (is_reserved d)) _ way.0 in
    let free = both_true (forwards b p && forwards b q && not (q == p)) _ away.0 in
    let other = both_true (forwards b p && forwards b q) (not (q == p)) free.0 in
    let ends = both_true (forwards b p) (forwards b q) other.0 in
    record { has_port = within; other = differs q p other.1; from = ends.0; to = ends.1 }

none_goes : (b : BridgeState) (p q : ℕ) → Contains [] q → GoesBetween b p q
none_goes b p q h = absurd (omega (arith, h.1))

taken_goes : (b : BridgeState) (p : ℕ) (f : FrameIn) (m : Option Bpdu) (no_room : Bool) (q : ℕ) → Contains (reception_result p f m no_room (after_reception p b)).egress q → GoesBetween b p q
unfolding data_result bpdu_result after_reception after_learning
taken_goes b p f None no_room q h =
    let goes = egress_goes (after_learning p f no_room (after_reception p b)) p f.destination q h in
    record { has_port = goes.has_port; other = goes.other; from = goes.from; to = goes.to }
taken_goes b p f (Some m) no_room q h = none_goes b p q h

framed_case : (b : BridgeState) (p : ℕ) (f : FrameIn) (no_room : Bool) (q : ℕ) (v : Bool) → is_on b p ≡ v → Contains (frame_result b p f no_room).egress q → GoesBetween b p q
framed_case b p f no_room q true e h =
    let P : Framed → Type 0 = λ g. Contains g.egress q in
    taken_goes b p f f.bpdu no_room q (subst P (framed_on b p f no_room e) h)
framed_case b p f no_room q false e h =
    let P : Framed → Type 0 = λ g. Contains g.egress q in
    none_goes b p q (subst P (framed_off b p f no_room e) h)

-- a frame goes between forwarding ports
pub framed_goes : (b : BridgeState) (p : ℕ) (f : FrameIn) (no_room : Bool) (q : ℕ) → Contains (frame_result b p f no_room).egress q → GoesBetween b p q
framed_goes b p f no_room q h = framed_case b p f no_room q (is_on b p) refl h
