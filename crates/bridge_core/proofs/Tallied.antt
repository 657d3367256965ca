-- How a frame that is no BPDU is counted, and how its source is learned.
use Rattle.std.proofs.Common.{◌≡◌, ◌≢◌, ℕ, ◌+◌, ◌-◌, ◌<◌, ◌≤◌, zero, suc, Bool, true, false, List, [], ◌∷◌, length, get_or, Contains, refl, sym, ap, subst, ◌∙◌, arith, ◌⊎◌, inl, inr}
use Rattle.std.specs.Prelude.{◌==◌, Option, Some, None, if◌then◌else◌, nat_lt}
use Rattle.std.specs.Option.{option_map}
use Rattle.std.proofs.lemmas.List.{length-set, get_or-set_same, get_or-set_other}
use Rattle.std.proofs.lemmas.Bool.Decides.{Decides-eqb, Decides-ltb}
use Rattle.frame_core.specs.declared.mac.Mac.{Mac}
use Rattle.frame_core.specs.declared.frame.FrameIn.{FrameIn}
use Rattle.fdb_core.specs.declared.row.LearnedRow.{LearnedRow}
use Rattle.fdb_core.specs.declared.learnt.Learnt.{Learnt}
use Rattle.fdb_core.specs.declared.learnt.Learnt.TheVariants.{New, Moved, Same, Full, Memory}
use Rattle.fdb_core.specs.Rows.{row_of, port_of as learned_port}
use Rattle.fdb_core.specs.Learning.{answer_from, answer, new_row}
use Rattle.fdb_core.proofs.Found.{learned_here, learned_others}
use Rattle.bridge_core.specs.declared.counters.PortCounters.{PortCounters}
use Rattle.bridge_core.specs.declared.bridge.TheConstants.{MAX_LEARNED_ROWS}
use Rattle.bridge_core.specs.Bridge.{BridgeState, HasPort, port_count, port_of, counters_of, no_counters}
use Rattle.bridge_core.specs.Counting.{with_frame_in, with_frame_out, with_discard, at_port, sent_from, sent_where}
use Rattle.bridge_core.specs.Forwarding.{learns, learnt_of, rows_after, egress_of}
use Rattle.bridge_core.specs.Events.{after_reception, after_learning, after_forwarding, data_result, Framed, frame_result}
use Rattle.bridge_core.specs.Relay.{IsReceived, HasPlace}
use Rattle.bridge_core.proofs.Relayed.{framed_passed, leaves_by, egress_is, found_in, passes_in, to_false}
use Rattle.bridge_core.proofs.Ways.{framed_goes}

-- the counters after such a frame
counters_are : (b : BridgeState) (p : ℕ) (f : FrameIn) (no_room : Bool) → IsReceived b p f
    → (frame_result b p f no_room).bridge.counters.ports ≡ at_port p (with_discard (length (frame_result b p f no_room).egress == 0)) (sent_where (leaves_by b p f.destination (frame_result b p f no_room).bridge.learned) (at_port p with_frame_in b.counters.ports))
unfolding data_result after_reception after_learning after_forwarding egress_of
counters_are b p f no_room h =
    let P : Framed → Type 0 = λ g. g.bridge.counters.ports ≡ at_port p (with_discard (length g.egress == 0)) (sent_where (leaves_by b p f.destination g.bridge.learned) (at_port p with_frame_in b.counters.ports)) in
    subst P (sym (framed_passed b p f no_room h)) refl

-- counting frames out, port by port
length-sent_from : (test : ℕ → Bool) (n : ℕ) (cs : List PortCounters) → length (sent_from test n cs) ≡ length cs
length-sent_from test n [] = refl
length-sent_from test n (c ∷ cs) = ap suc (length-sent_from test (n + 1) cs)

sent_from-at : (test : ℕ → Bool) (n i m : ℕ) (cs : List PortCounters) (d : PortCounters) → n + i ≡ m → i < length cs → get_or (sent_from test n cs) i d ≡ with_frame_out (test m) (get_or cs i d)
sent_from-at test n i m [] d e h = absurd (omega arith)
sent_from-at test n zero m (c ∷ cs) d e h =
    let same : n ≡ m = omega arith in
    ap (λ (k : ℕ). with_frame_out (test k) c) same
sent_from-at test n (suc i) m (c ∷ cs) d e h = sent_from-at test (n + 1) i m cs d (omega arith) (omega arith)

length-sent : (test : ℕ → Bool) (cs : List PortCounters) → length (sent_where test cs) ≡ length cs
unfolding sent_where
length-sent test cs = length-sent_from test 1 cs

sent-at : (test : ℕ → Bool) (n : ℕ) (cs : List PortCounters) → 1 ≤ n → n ≤ length cs → get_or (sent_where test cs) (n - 1) no_counters ≡ with_frame_out (test n) (get_or cs (n - 1) no_counters)
unfolding sent_where
sent-at test n cs first last = sent_from-at test 1 (n - 1) n cs no_counters (omega arith) (omega arith)

-- the counters of one port, and of the others
at_port-same : (p : ℕ) (change : PortCounters → PortCounters) (cs : List PortCounters) → 1 ≤ p → p ≤ length cs → get_or (at_port p change cs) (p - 1) no_counters ≡ change (get_or cs (p - 1) no_counters)
at_port-same p change cs first last = get_or-set_same cs (p - 1) (change (get_or cs (p - 1) no_counters)) no_counters (omega arith)

at_port-other : (p n : ℕ) (change : PortCounters → PortCounters) (cs : List PortCounters) → 1 ≤ p → 1 ≤ n → n ≢ p → get_or (at_port p change cs) (n - 1) no_counters ≡ get_or cs (n - 1) no_counters
at_port-other p n change cs first least other = get_or-set_other cs (p - 1) (n - 1) (change (get_or cs (p - 1) no_counters)) no_counters (λ e. other (omega (arith, e)))

length-at_port : (p : ℕ) (change : PortCounters → PortCounters) (cs : List PortCounters) → length (at_port p change cs) ≡ length cs
length-at_port p change cs = length-set cs (p - 1) (change (get_or cs (p - 1) no_counters))

-- the frame does not go back
not_back : (b : BridgeState) (p : ℕ) (f : FrameIn) (no_room : Bool) → IsReceived b p f → leaves_by b p f.destination (frame_result b p f no_room).bridge.learned p ≡ false
not_back b p f no_room h =
    let test = leaves_by b p f.destination (frame_result b p f no_room).bridge.learned in
    to_false (test p) (λ e.
    (framed_goes b p f no_room p (subst (λ (xs : List ℕ). Contains xs p) (sym (egress_is b p f no_room h)) (found_in test (port_count b) p h.has_port.0 h.has_port.1 e))).other refl)

-- of the port by which it came
pub counted_in : (b : BridgeState) (p : ℕ) (f : FrameIn) (no_room : Bool) → IsReceived b p f → p ≤ length b.counters.ports
    → counters_of (frame_result b p f no_room).bridge p ≡ with_discard (length (frame_result b p f no_room).egress == 0) (with_frame_in (counters_of b p))
counted_in b p f no_room h last =
    let test = leaves_by b p f.destination (frame_result b p f no_room).bridge.learned in
    let lost = length (frame_result b p f no_room).egress == 0 in
    let ins = at_port p with_frame_in b.counters.ports in
    let within : p ≤ length ins = omega (arith, length-at_port p with_frame_in b.counters.ports) in
    let sent : p ≤ length (sent_where test ins) = omega (arith, length-sent test ins) in
    ap (λ (cs : List PortCounters). get_or cs (p - 1) no_counters) (counters_are b p f no_room h)
    ∙ (at_port-same p (with_discard lost) (sent_where test ins) h.has_port.0 sent
    ∙ ap (with_discard lost) (sent-at test p ins h.has_port.0 within
    ∙ (ap (λ (v : Bool). with_frame_out v (get_or ins (p - 1) no_counters)) (not_back b p f no_room h)
    ∙ at_port-same p with_frame_in b.counters.ports h.has_port.0 last)))

-- of each other port
counted_other : (b : BridgeState) (p : ℕ) (f : FrameIn) (no_room : Bool) (n : ℕ) → IsReceived b p f → 1 ≤ n → n ≤ length b.counters.ports → n ≢ p
    → counters_of (frame_result b p f no_room).bridge n ≡ with_frame_out (leaves_by b p f.destination (frame_result b p f no_room).bridge.learned n) (counters_of b n)
counted_other b p f no_room n h first last other =
    let test = leaves_by b p f.destination (frame_result b p f no_room).bridge.learned in
    let lost = length (frame_result b p f no_room).egress == 0 in
    let ins = at_port p with_frame_in b.counters.ports in
    let within : n ≤ length ins = omega (arith, length-at_port p with_frame_in b.counters.ports) in
    ap (λ (cs : List PortCounters). get_or cs (n - 1) no_counters) (counters_are b p f no_room h)
    ∙ (at_port-other p n (with_discard lost) (sent_where test ins) h.has_port.0 first other
    ∙ (sent-at test n ins first within
    ∙ ap (with_frame_out (test n)) (at_port-other p n with_frame_in b.counters.ports h.has_port.0 first other)))

pub counted_out : (b : BridgeState) (p : ℕ) (f : FrameIn) (no_room : Bool) (n : ℕ) → IsReceived b p f → n ≤ length b.counters.ports
    → Contains (frame_result b p f no_room).egress n → counters_of (frame_result b p f no_room).bridge n ≡ with_frame_out true (counters_of b n)
counted_out b p f no_room n h last goes =
    let test = leaves_by b p f.destination (frame_result b p f no_room).bridge.learned in
    let way = framed_goes b p f no_room n goes in
    let passes : test n ≡ true = passes_in test (port_count b) n (subst (λ (xs : List ℕ). Contains xs n) (egress_is b p f no_room h) goes) in
    counted_other b p f no_room n h way.has_port.0 last way.other ∙ ap (λ (v : Bool). with_frame_out v (counters_of b n)) passes

pub counted_rest : (b : BridgeState) (p : ℕ) (f : FrameIn) (no_room : Bool) (n : ℕ) → IsReceived b p f → HasPort b n → n ≤ length b.counters.ports → n ≢ p
    → (Contains (frame_result b p f no_room).egress n → ⊥) → counters_of (frame_result b p f no_room).bridge n ≡ counters_of b n
counted_rest b p f no_room n h port last other stays =
    let test = leaves_by b p f.destination (frame_result b p f no_room).bridge.learned in
    let fails : test n ≡ false = to_false (test n) (λ e. stays (subst (λ (xs : List ℕ). Contains xs n) (sym (egress_is b p f no_room h)) (found_in test (port_count b) n port.0 port.1 e))) in
    counted_other b p f no_room n h port.0 last other ∙ ap (λ (v : Bool). with_frame_out v (counters_of b n)) fails

-- nothing went out, or something did
pub none_out : (xs : List ℕ) → xs ≡ [] → (length xs == 0) ≡ true
none_out xs e = rw e

pub some_out : (xs : List ℕ) → xs ≢ [] → (length xs == 0) ≡ false
some_out [] h = absurd (h refl)
some_out (x ∷ xs) h =
    to_false (length (x ∷ xs) == 0) (λ e. let none : suc (length xs) ≡ 0 = (Decides-eqb (length (x ∷ xs)) 0).0 e in absurd (omega arith))

-- the rows after such a frame
pub learned_are : (b : BridgeState) (p : ℕ) (f : FrameIn) (no_room : Bool) → IsReceived b p f
    → (frame_result b p f no_room).bridge.learned ≡ rows_after (learnt_of b p f no_room) b.learned f.source p
unfolding data_result after_reception after_learning after_forwarding
learned_are b p f no_room h = ap (λ (g : Framed). g.bridge.learned) (framed_passed b p f no_room h)

-- a place and memory
record IsKept (l : Learnt) : Type 0 where
  full : l ≢ Full
  memory : l ≢ Memory

kept_on : (v : Bool) → IsKept (if v then Same else Moved)
kept_on true = record { full = λ e. cc; memory = λ e. cc }
kept_on false = record { full = λ e. cc; memory = λ e. cc }

kept_new : (v : Bool) → v ≡ true → IsKept (if v then New else Full)
kept_new true e = record { full = λ f. cc; memory = λ f. cc }
kept_new false e = cc

kept_from : (o : Option ℕ) (rows : List LearnedRow) (limit p : ℕ) → (o ≢ None) ⊎ (length rows < limit) → IsKept (answer_from o rows limit p)
kept_from (Some k) rows limit p h = kept_on (k == p)
kept_from None rows limit p (inl h) = absurd (h refl)
kept_from None rows limit p (inr h) = kept_new (nat_lt (length rows) limit) ((Decides-ltb (length rows) limit).1 h)

pub source_row : (b : BridgeState) (p : ℕ) (f : FrameIn) → IsReceived b p f → learns (port_of b p).state f ≡ true → HasPlace b.learned f.source
    → row_of (frame_result b p f false).bridge.learned f.source ≡ Some (new_row f.source p)
source_row b p f h e place =
    let l = answer b.learned MAX_LEARNED_ROWS f.source p in
    let kept = kept_from (learned_port b.learned f.source) b.learned MAX_LEARNED_ROWS p place in
    let known : learnt_of b p f false ≡ Some l = ap (λ (v : Bool). if v then Some l else None) e in
    ap (λ (rows : List LearnedRow). row_of rows f.source) (learned_are b p f false h ∙ ap (λ (o : Option Learnt). rows_after o b.learned f.source p) known)
    ∙ learned_here l b.learned f.source p kept.full kept.memory

pub source_found : (b : BridgeState) (p : ℕ) (f : FrameIn) → IsReceived b p f → learns (port_of b p).state f ≡ true → HasPlace b.learned f.source
    → learned_port (frame_result b p f false).bridge.learned f.source ≡ Some p
source_found b p f h e place = ap (option_map (λ (r : LearnedRow). r.port)) (source_row b p f h e place)

-- other addresses, and sources that are not learned
others_after : (o : Option Learnt) (rows : List LearnedRow) (a other : Mac) (p : ℕ) → other ≢ a → row_of (rows_after o rows a p) other ≡ row_of rows other
others_after None rows a other p h = refl
others_after (Some l) rows a other p h = learned_others l rows a p other h

pub others_stay : (b : BridgeState) (p : ℕ) (f : FrameIn) (no_room : Bool) (other : Mac) → IsReceived b p f → other ≢ f.source
    → row_of (frame_result b p f no_room).bridge.learned other ≡ row_of b.learned other
others_stay b p f no_room other h differs =
    ap (λ (rows : List LearnedRow). row_of rows other) (learned_are b p f no_room h) ∙ others_after (learnt_of b p f no_room) b.learned f.source other p differs

pub unlearned : (b : BridgeState) (p : ℕ) (f : FrameIn) (no_room : Bool) → IsReceived b p f → learns (port_of b p).state f ≡ false
    → (frame_result b p f no_room).bridge.learned ≡ b.learned
unlearned b p f no_room h e =
    let none : learnt_of b p f no_room ≡ None = ap (λ (v : Bool). if v then Some (if no_room then Memory else answer b.learned MAX_LEARNED_ROWS f.source p) else None) e in
    learned_are b p f no_room h ∙ ap (λ (o : Option Learnt). rows_after o b.learned f.source p) none
