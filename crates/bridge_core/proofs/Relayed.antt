-- What becomes of a frame that is no BPDU.
use Rattle.std.proofs.Common.{◌≡◌, ◌≢◌, ℕ, ◌+◌, ◌-◌, ◌<◌, ◌≤◌, zero, suc, Bool, true, false, ◌&&◌, ◌||◌, not, List, [], ◌∷◌, length, get_or, filter, Contains, eq-eqb, refl, sym, ap, subst, ◌∙◌, arith, inl, inr}
use Rattle.std.specs.Prelude.{◌==◌, ◌↔◌, Option}
use Rattle.std.specs.List.{range_with_len}
use Rattle.std.proofs.lemmas.List.Elements.{Contains-append_right, All-contains, filter_passes}
use Rattle.std.proofs.lemmas.List.FromFn.{length-range_with_len, get_or-range_with_len}
use Rattle.std.proofs.lemmas.Bool.{true≢false}
use Rattle.std.proofs.lemmas.Bool.Decides.{Decides-eqb}
use Rattle.std.proofs.lemmas.Slice.Eq.{bytes_eq-Decides}
use Rattle.frame_core.specs.declared.mac.Mac.{Mac}
use Rattle.frame_core.specs.declared.bpdu.Bpdu.{Bpdu}
use Rattle.frame_core.specs.declared.frame.FrameIn.{FrameIn}
use Rattle.frame_core.specs.Octets.{is_group, same_mac}
use Rattle.fdb_core.specs.declared.row.LearnedRow.{LearnedRow}
use Rattle.fdb_core.specs.declared.static_row.StaticRow.{StaticRow}
use Rattle.fdb_core.specs.PortSets.{has_port}
use Rattle.fdb_core.specs.Rows.{port_of as learned_port}
use Rattle.bridge_core.specs.Bridge.{BridgeState, address_of, port_count}
use Rattle.bridge_core.specs.Statics.{listed}
use Rattle.bridge_core.specs.Forwarding.{is_reserved, forwards, may_be_behind, may_go, ports_where, egress_of}
use Rattle.bridge_core.specs.Events.{after_reception, after_learning, after_forwarding, data_result, reception_result, Framed, frame_result, no_bpdus, GoesBetween}
use Rattle.bridge_core.specs.Relay.{IsReceived, IsRelayed, IsListed, IsUnlisted, IsForAll, IsFor, destination_port}
use Rattle.bridge_core.proofs.Changes.{framed_on}
use Rattle.bridge_core.proofs.Ways.{framed_goes}

-- a frame that is no BPDU is passed on
pub framed_passed : (b : BridgeState) (p : ℕ) (f : FrameIn) (no_room : Bool) → IsReceived b p f → frame_result b p f no_room ≡ data_result p f no_room (after_reception p b)
framed_passed b p f no_room h =
    framed_on b p f no_room h.on ∙ ap (λ (m : Option Bpdu). reception_result p f m no_room (after_reception p b)) h.plain

-- settings and spanning tree stay, and no BPDU goes out
pub keeps_settings : (b : BridgeState) (p : ℕ) (f : FrameIn) (no_room : Bool) → IsReceived b p f → (frame_result b p f no_room).bridge.settings ≡ b.settings
unfolding data_result after_reception after_learning after_forwarding
keeps_settings b p f no_room h = ap (λ (g : Framed). g.bridge.settings) (framed_passed b p f no_room h)

pub keeps_tree : (b : BridgeState) (p : ℕ) (f : FrameIn) (no_room : Bool) → IsReceived b p f → (frame_result b p f no_room).bridge.tree ≡ b.tree
unfolding data_result after_reception after_learning after_forwarding
keeps_tree b p f no_room h = ap (λ (g : Framed). g.bridge.tree) (framed_passed b p f no_room h)

pub sends_none : (b : BridgeState) (p : ℕ) (f : FrameIn) (no_room : Bool) → IsReceived b p f → (frame_result b p f no_room).bpdus ≡ no_bpdus b
unfolding data_result after_reception
sends_none b p f no_room h = ap (λ (g : Framed). g.bpdus) (framed_passed b p f no_room h)

-- whether a frame to d by port p goes out by port q, where these rows are learned
abbrev pub leaves_by : BridgeState → ℕ → Mac → List LearnedRow → ℕ → Bool
leaves_by b p d rows q =
    forwards b p && forwards b q && not (q == p) && not (is_reserved d) && not (same_mac d (address_of b))
    && may_go (listed b.statics.rows p d) rows d q

pub egress_is : (b : BridgeState) (p : ℕ) (f : FrameIn) (no_room : Bool) → IsReceived b p f
    → (frame_result b p f no_room).egress ≡ ports_where (leaves_by b p f.destination (frame_result b p f no_room).bridge.learned) (port_count b)
unfolding data_result after_reception after_learning after_forwarding egress_of
egress_is b p f no_room h =
    let P : Framed → Type 0 = λ g. g.egress ≡ ports_where (leaves_by b p f.destination g.bridge.learned) (port_count b) in
    subst P (sym (framed_passed b p f no_room h)) refl

-- the tests of a frame that may go out
flat : (q o w : Bool) → (true && q && o && not false && not false && w) ≡ (q && o && w)
flat true true w = refl
flat true false w = refl
flat false o w = refl

relayed : (p q o r s w : Bool) → p ≡ true → r ≡ false → s ≡ false → (p && q && o && not r && not s && w) ≡ (q && o && w)
relayed p q o r s w e f g = rw (e, f, g) (flat q o w)

-- another address is not the same
differs_from : (d a : Mac) (v : Bool) → same_mac d a ≡ v → d ≢ a → same_mac d a ≡ false
differs_from d a false e h = e
differs_from d a true e h =
    let of : List ℕ → Mac = λ octets. record { 0 = octets } in
    absurd (h (ap of ((bytes_eq-Decides d.0 a.0).0 e)))

pub leaves_relayed : (b : BridgeState) (p : ℕ) (f : FrameIn) (rows : List LearnedRow) → IsRelayed b p f
    → leaves_by b p f.destination rows ≡ (λ (q : ℕ). forwards b q && not (q == p) && may_go (listed b.statics.rows p f.destination) rows f.destination q)
leaves_relayed b p f rows h = λ i q.
    relayed (forwards b p) (forwards b q) (not (q == p)) (is_reserved f.destination) (same_mac f.destination (address_of b)) (may_go (listed b.statics.rows p f.destination) rows f.destination q) h.forwards h.unreserved (differs_from f.destination (address_of b) (same_mac f.destination (address_of b)) refl h.foreign) i

-- the numbers of a list that pass a test are listed
kept_behind : (test : ℕ → Bool) (x q : ℕ) (xs : List ℕ) (v : Bool) → test x ≡ v → Contains (filter test xs) q → Contains (filter test (x ∷ xs)) q
kept_behind test x q xs true e h = rw e (Contains-append_right (x ∷ []) (filter test xs) q h)
kept_behind test x q xs false e h = rw e h

kept_at : (test : ℕ → Bool) (xs : List ℕ) (q k : ℕ) → k < length xs → get_or xs k q ≡ q → test q ≡ true → Contains (filter test xs) q
kept_at test [] q k h e f = absurd (omega arith)
kept_at test (x ∷ xs) q zero h e f = rw (ap test e ∙ f) (0, omega arith, e)
kept_at test (x ∷ xs) q (suc k) h e f = kept_behind test x q xs (test x) refl (kept_at test xs q k (omega arith) e f)

pub found_in : (test : ℕ → Bool) (n q : ℕ) → 1 ≤ q → q ≤ n → test q ≡ true → Contains (ports_where test n) q
unfolding ports_where
found_in test n q first last e =
    let below : q - 1 < n = omega arith in
    let within : q - 1 < length (range_with_len 1 n) = omega (arith, length-range_with_len 1 n) in
    let same : 1 + (q - 1) ≡ q = omega arith in
    kept_at test (range_with_len 1 n) q (q - 1) within (get_or-range_with_len 1 n (q - 1) q below ∙ same) e

pub passes_in : (test : ℕ → Bool) (n q : ℕ) → Contains (ports_where test n) q → test q ≡ true
unfolding ports_where
passes_in test n q h =
    All-contains (λ (k : ℕ). test k ≡ true) (filter test (range_with_len 1 n)) q (filter_passes test (range_with_len 1 n)) h

-- where none passes, none is listed
absent : (test : ℕ → Bool) (a n : ℕ) → ((q : ℕ) → a ≤ q → q < a + n → test q ≡ false) → filter test (range_with_len a n) ≡ []
absent test a zero h = refl
absent test a (suc n) h = rw (h a (omega arith) (omega arith)) (absent test (a + 1) n (λ q l m. h q (omega arith) (omega arith)))

pub to_false : (v : Bool) → (v ≡ true → ⊥) → v ≡ false
to_false true h = absurd (h refl)
to_false false h = refl

-- where one alone passes, it alone is listed
alone_from : (test : ℕ → Bool) (r a n : ℕ) (v : Bool) → test a ≡ v → ((q : ℕ) → test q ≡ true → q ≡ r) → a ≤ r → r < a + n → test r ≡ true → filter test (range_with_len a n) ≡ r ∷ []
alone_from test r a zero v e only least most t = absurd (omega arith)
alone_from test r a (suc n) true e only least most t =
    let same : a ≡ r = only a e in
    let none : filter test (range_with_len (a + 1) n) ≡ [] = absent test (a + 1) n (λ q l m. to_false (test q) (λ f. let found = only q f in absurd (omega arith))) in
    rw e (ap (λ (xs : List ℕ). a ∷ xs) none ∙ ap (λ (k : ℕ). k ∷ []) same)
alone_from test r a (suc n) false e only least most t =
    let other : a ≢ r = λ same. true≢false (sym t ∙ (sym (ap test same) ∙ e)) in
    rw e (alone_from test r (a + 1) n (test (a + 1)) refl only (omega arith) (omega arith) t)

pub alone : (test : ℕ → Bool) (r n : ℕ) → ((q : ℕ) → test q ≡ true → q ≡ r) → 1 ≤ r → r ≤ n → test r ≡ true → ports_where test n ≡ r ∷ []
unfolding ports_where
alone test r n only first last t = alone_from test r 1 n (test 1) refl only first (omega arith) t

pub nowhere : (test : ℕ → Bool) (n : ℕ) → ((q : ℕ) → 1 ≤ q → q ≤ n → test q ≡ false) → ports_where test n ≡ []
unfolding ports_where
nowhere test n h = absent test 1 n (λ q l m. h q l (omega arith))

-- another forwarding port
another : (q p : ℕ) → q ≢ p → not (q == p) ≡ true
another q p h = ap not (to_false (q == p) (λ e. h ((Decides-eqb q p).0 e)))

is_another : (q p : ℕ) → not (q == p) ≡ true → q ≢ p
is_another q p h e = true≢false (sym (sym (ap not (eq-eqb q p e)) ∙ h))

pub both_true : (a b : Bool) → (a && b) ≡ true → (a ≡ true) × (b ≡ true)
both_true true b e = (refl, e)
both_true false b e = cc

-- a frame for which no row is listed goes by its destination
unlisted : (b : BridgeState) (p : ℕ) (f : FrameIn) (rows : List LearnedRow) (q : ℕ) → IsUnlisted b p f → may_go (listed b.statics.rows p f.destination) rows f.destination q ≡ (is_group f.destination || may_be_behind (learned_port rows f.destination) q)
unlisted b p f rows q h = ap (λ (o : Option StaticRow). may_go o rows f.destination q) h

-- a frame for all
for_all : (b : BridgeState) (p : ℕ) (f : FrameIn) (no_room : Bool) (q : ℕ) → IsForAll b p f no_room → (is_group f.destination || may_be_behind (destination_port b p f no_room) q) ≡ true
for_all b p f no_room q (inl e) = rw e
for_all b p f no_room q (inr e) = rw e (or_true (is_group f.destination))
  where
    or_true : (v : Bool) → (v || true) ≡ true
    or_true true = refl
    or_true false = refl

and_true : (a b c : Bool) → c ≡ true → (a && b && c) ≡ (a && b)
and_true true true c e = e
and_true true false c e = refl
and_true false b c e = refl

pub flooded : (b : BridgeState) (p : ℕ) (f : FrameIn) (no_room : Bool) → IsRelayed b p f → IsUnlisted b p f → IsForAll b p f no_room
    → (frame_result b p f no_room).egress ≡ ports_where (λ (q : ℕ). forwards b q && not (q == p)) (port_count b)
flooded b p f no_room h none all =
    egress_is b p f no_room h.received
    ∙ ap (λ (t : ℕ → Bool). ports_where t (port_count b)) (leaves_relayed b p f (frame_result b p f no_room).bridge.learned h
    ∙ λ i q. and_true (forwards b q) (not (q == p)) (may_go (listed b.statics.rows p f.destination) (frame_result b p f no_room).bridge.learned f.destination q) (unlisted b p f (frame_result b p f no_room).bridge.learned q none ∙ for_all b p f no_room q all) i)

pub floods : (b : BridgeState) (p : ℕ) (f : FrameIn) (no_room : Bool) → IsRelayed b p f → IsUnlisted b p f → IsForAll b p f no_room → (q : ℕ) → Contains (frame_result b p f no_room).egress q ↔ GoesBetween b p q
floods b p f no_room h none all q = (
  framed_goes b p f no_room q,
  λ g. subst (λ (xs : List ℕ). Contains xs q) (sym (flooded b p f no_room h none all)) (found_in (λ (k : ℕ). forwards b k && not (k == p)) (port_count b) q g.has_port.0 g.has_port.1 (rw (g.to, another q p g.other))),
)

-- a frame for one station
for_one : (b : BridgeState) (p : ℕ) (f : FrameIn) (no_room : Bool) (r q : ℕ) → IsFor b p f no_room r → (is_group f.destination || may_be_behind (destination_port b p f no_room) q) ≡ (r == q)
for_one b p f no_room r q h = rw (h.single, h.at)

pub directed : (b : BridgeState) (p : ℕ) (f : FrameIn) (no_room : Bool) (r : ℕ) → IsRelayed b p f → IsUnlisted b p f → IsFor b p f no_room r
    → (frame_result b p f no_room).egress ≡ ports_where (λ (q : ℕ). forwards b q && not (q == p) && r == q) (port_count b)
directed b p f no_room r h none one =
    egress_is b p f no_room h.received
    ∙ ap (λ (t : ℕ → Bool). ports_where t (port_count b)) (leaves_relayed b p f (frame_result b p f no_room).bridge.learned h
    ∙ λ i q. forwards b q && not (q == p) && (unlisted b p f (frame_result b p f no_room).bridge.learned q none ∙ for_one b p f no_room r q one) i)

pub goes_alone : (b : BridgeState) (p : ℕ) (f : FrameIn) (no_room : Bool) (r : ℕ) → IsRelayed b p f → IsUnlisted b p f → IsFor b p f no_room r → GoesBetween b p r → (frame_result b p f no_room).egress ≡ r ∷ []
goes_alone b p f no_room r h none one g =
    let test : ℕ → Bool = λ q. forwards b q && not (q == p) && r == q in
    let only : (q : ℕ) → test q ≡ true → q ≡ r = λ q e. sym ((Decides-eqb r q).0 (both_true (forwards b q && not (q == p)) (r == q) e).1) in
    directed b p f no_room r h none one ∙ alone test r (port_count b) only g.has_port.0 g.has_port.1 (rw (g.to, another r p g.other, eq-eqb r r refl))

pub goes_nowhere : (b : BridgeState) (p : ℕ) (f : FrameIn) (no_room : Bool) (r : ℕ) → IsRelayed b p f → IsUnlisted b p f → IsFor b p f no_room r → (GoesBetween b p r → ⊥) → (frame_result b p f no_room).egress ≡ []
goes_nowhere b p f no_room r h none one g =
    let test : ℕ → Bool = λ q. forwards b q && not (q == p) && r == q in
    directed b p f no_room r h none one ∙ nowhere test (port_count b) (λ q first last. to_false (test q) (λ e.
    let way = both_true (forwards b q && not (q == p)) (r == q) e in
    let ends = both_true (forwards b q) (not (q == p)) way.0 in
    let to : GoesBetween b p q = record { has_port = (first, last); other = is_another q p ends.1; from = h.forwards; to = ends.0 } in
    g (subst (GoesBetween b p) (sym ((Decides-eqb r q).0 way.1)) to)))

-- a frame for which a row is listed
pub goes_listed : (b : BridgeState) (p : ℕ) (f : FrameIn) (no_room : Bool) (row : StaticRow) → IsRelayed b p f → IsListed b p f row
    → (frame_result b p f no_room).egress ≡ ports_where (λ (q : ℕ). forwards b q && not (q == p) && has_port row.ports q) (port_count b)
goes_listed b p f no_room row h one =
    let rows = (frame_result b p f no_room).bridge.learned in
    egress_is b p f no_room h.received
    ∙ ap (λ (t : ℕ → Bool). ports_where t (port_count b)) (leaves_relayed b p f rows h
    ∙ λ i q. forwards b q && not (q == p) && ap (λ (o : Option StaticRow). may_go o rows f.destination q) one i)

pub lists : (b : BridgeState) (p : ℕ) (f : FrameIn) (no_room : Bool) (row : StaticRow) → IsRelayed b p f → IsListed b p f row → (q : ℕ) → Contains (frame_result b p f no_room).egress q ↔ (GoesBetween b p q × (has_port row.ports q ≡ true))
lists b p f no_room row h one q =
    let test : ℕ → Bool = λ k. forwards b k && not (k == p) && has_port row.ports k in
    let same = goes_listed b p f no_room row h one in (
      λ e. (framed_goes b p f no_room q e, (both_true (forwards b q && not (q == p)) (has_port row.ports q) (passes_in test (port_count b) q (subst (λ (xs : List ℕ). Contains xs q) same e))).1),
      λ g. subst (λ (xs : List ℕ). Contains xs q) (sym same) (found_in test (port_count b) q g.0.has_port.0 g.0.has_port.1 (rw (g.0.to, another q p g.0.other, g.1))),
    )

-- a frame that may not go out
stays : (b : BridgeState) (p : ℕ) (f : FrameIn) (no_room : Bool) → IsReceived b p f → ((rows : List LearnedRow) (q : ℕ) → leaves_by b p f.destination rows q ≡ true → ⊥) → (frame_result b p f no_room).egress ≡ []
stays b p f no_room h none =
    let rows = (frame_result b p f no_room).bridge.learned in
    egress_is b p f no_room h ∙ nowhere (leaves_by b p f.destination rows) (port_count b) (λ q first last. to_false (leaves_by b p f.destination rows q) (none rows q))

-- what a frame that goes out needs
record Needs (b : BridgeState) (p : ℕ) (d : Mac) : Type 0 where
  from : forwards b p ≡ true
  unreserved : not (is_reserved d) ≡ true
  foreign : not (same_mac d (address_of b)) ≡ true

needs : (b : BridgeState) (p : ℕ) (d : Mac) (rows : List LearnedRow) (q : ℕ) → leaves_by b p d rows q ≡ true → Needs b p d
needs b p d rows q e =
    let way = both_true (forwards b p && forwards b q && not (q == p) && not (is_reserved d) && not (same_mac d (address_of b))) _ e in
    let away = both_true (forwards b p && forwards b q && not (q == p) && not (is_reserved d)) (not (same_mac d (address_of b))) way.0 in
    let free = both_true (forwards b p && forwards b q && not (q == p)) (not (is_reserved d)) away.0 in
    let other = both_true (forwards b p && forwards b q) (not (q == p)) free.0 in
    let ends = both_true (forwards b p) (forwards b q) other.0 in
    record { from = ends.0; unreserved = free.1; foreign = away.1 }

pub stays_at : (b : BridgeState) (p : ℕ) (f : FrameIn) (no_room : Bool) → IsReceived b p f → forwards b p ≡ false → (frame_result b p f no_room).egress ≡ []
stays_at b p f no_room h e =
    stays b p f no_room h (λ rows q g. true≢false (sym (needs b p f.destination rows q g).from ∙ e))

pub stays_reserved : (b : BridgeState) (p : ℕ) (f : FrameIn) (no_room : Bool) → IsReceived b p f → is_reserved f.destination ≡ true → (frame_result b p f no_room).egress ≡ []
stays_reserved b p f no_room h e =
    stays b p f no_room h (λ rows q g. true≢false (sym (needs b p f.destination rows q g).unreserved ∙ ap not e))

pub stays_own : (b : BridgeState) (p : ℕ) (f : FrameIn) (no_room : Bool) → IsReceived b p f → f.destination ≡ address_of b → (frame_result b p f no_room).egress ≡ []
stays_own b p f no_room h e =
    let same : same_mac f.destination (address_of b) ≡ true = (bytes_eq-Decides f.destination.0 (address_of b).0).1 (ap (λ (a : Mac). a.0) e) in
    stays b p f no_room h (λ rows q g. true≢false (sym (needs b p f.destination rows q g).foreign ∙ ap not same))
