-- The turns in ascending order, as one change of each port.
use Rattle.std.proofs.Common.{◌≡◌, ◌≢◌, ℕ, zero, suc, ◌+◌, ◌<◌, ◌≤◌, Bool, true, false, cond, ◌&&◌, ◌||◌, not, eqb, List, length, take, get_or, set, map, inl, inr, refl, sym, ap, subst, ◌∙◌, arith}
use Rattle.std.specs.List.{list_any}
use Rattle.std.proofs.lemmas.List.{get_or-set_same, get_or-set_other, get_or-map, length-map, length-set, take_all, ext_get_or}
use Rattle.std.proofs.lemmas.List.Folds.{list_any_more}
use Rattle.std.proofs.lemmas.Bool.Decides.{eqb_tells}
use Rattle.rstp_rules.specs.declared.row.PortInEvent.{PortInEvent}
use Rattle.rstp_rules.specs.declared.row.Timing.{Timing}
use Rattle.rstp_rules.specs.Ports.{is_root_or_designated}
use Rattle.rstp_rules.specs.Transitions.{has_begun, with_transition_counted, with_change_started, with_change_spread, change_time}
use Rattle.rstp_rules.specs.Turns.{no_row, with_change_spread_but, after_begin, turn_at, first_turns, turns, starts_change, another_starts, with_changes_signalled, AreDistinct}

-- conditions
if_const : {X Y : Type 0} (f : X → Y) (b : Bool) (x y : X) (v : Y) → f x ≡ v → f y ≡ v → f (cond b x y) ≡ v
if_const f true x y v e g = e
if_const f false x y v e g = g

if_push : {X Y : Type 0} (f : X → Y) (b : Bool) (x y : X) → f (cond b x y) ≡ cond b (f x) (f y)
if_push f true x y = refl
if_push f false x y = refl

if_same : {X : Type 0} (b : Bool) (x : X) → cond b x x ≡ x
if_same true x = refl
if_same false x = refl

-- What no turn changes.
record IsTurned (r q : PortInEvent) : Type 0 where
  number : q.inputs.number ≡ r.inputs.number
  begins : has_begun q ≡ has_begun r
  edge : q.port.oper_edge ≡ r.port.oper_edge
  hears : (q.inputs.on && is_root_or_designated q.port.role && not q.port.oper_edge) ≡ (r.inputs.on && is_root_or_designated r.port.role && not r.port.oper_edge)

turned_refl : (r : PortInEvent) → IsTurned r r
turned_refl r = record { number = refl; begins = refl; edge = refl; hears = refl }

turned_trans : (r q p : PortInEvent) → IsTurned r q → IsTurned q p → IsTurned r p
turned_trans r q p h i = record { number = i.number ∙ h.number; begins = i.begins ∙ h.begins; edge = i.edge ∙ h.edge; hears = i.hears ∙ h.hears }

turned_if : (b : Bool) (r x y : PortInEvent) → IsTurned r x → IsTurned r y → IsTurned r (cond b x y)
turned_if true r x y h i = h
turned_if false r x y h i = i

abbrev flush : PortInEvent → PortInEvent
flush r = record r { flushed = true }

abbrev start : Timing → PortInEvent → PortInEvent
start t r = record r { port = record r.port { tc_while = change_time t r; new_info = true } }

abbrev hears : PortInEvent → Bool
hears r = r.inputs.on && is_root_or_designated r.port.role && not r.port.oper_edge

turned_start : (t : Timing) (r : PortInEvent) → IsTurned r (with_change_started t r)
turned_start t r = turned_if _ r (start t r) r (record { number = refl; begins = refl; edge = refl; hears = refl }) (turned_refl r)

turned_spread : (t : Timing) (r : PortInEvent) → IsTurned r (with_change_spread t r)
turned_spread t r =
    let h = turned_start t r in
    turned_if _ r (flush (with_change_started t r)) r (record { number = h.number; begins = h.begins; edge = h.edge; hears = h.hears }) (turned_refl r)

turned_begun : (t : Timing) (r : PortInEvent) → IsTurned r (after_begin t r)
turned_begun t r =
    let h = turned_start t (with_transition_counted r) in
    turned_if _ r (with_transition_counted r) (with_change_started t (with_transition_counted r)) (record { number = refl; begins = refl; edge = refl; hears = refl }) (record { number = h.number; begins = h.begins; edge = h.edge; hears = h.hears })

-- a change that starts twice starts once
started_twice : (t : Timing) (r : PortInEvent) (z : Bool) → eqb r.port.tc_while 0 ≡ z → with_change_started t (with_change_started t r) ≡ with_change_started t r
started_twice t r true e =
    let one : with_change_started t r ≡ start t r = ap (λ b. cond b (start t r) r) e in
    ap (with_change_started t) one ∙ (if_same (eqb (change_time t r) 0) (start t r) ∙ sym one)
started_twice t r false e =
    let one : with_change_started t r ≡ r = ap (λ b. cond b (start t r) r) e in
    ap (with_change_started t) one

-- starting, counting and flushing in any order
started_flush : (t : Timing) (r : PortInEvent) → with_change_started t (flush r) ≡ flush (with_change_started t r)
started_flush t r = sym (if_push flush (eqb r.port.tc_while 0) (start t r) r)

counted_started : (t : Timing) (r : PortInEvent) → with_transition_counted (with_change_started t r) ≡ with_change_started t (with_transition_counted r)
counted_started t r = if_push with_transition_counted (eqb r.port.tc_while 0) (start t r) r

spread_if : (t : Timing) (r : PortInEvent) (h : Bool) → hears r ≡ h → with_change_spread t r ≡ cond h (flush (with_change_started t r)) r
spread_if t r h e = ap (λ b. cond b (flush (with_change_started t r)) r) e

-- a change that is signalled twice is signalled once
spread_twice : (t : Timing) (r : PortInEvent) (h : Bool) → hears r ≡ h → with_change_spread t (with_change_spread t r) ≡ with_change_spread t r
spread_twice t r false e = ap (with_change_spread t) (spread_if t r false e)
spread_twice t r true e =
    let y = flush (with_change_started t r) in
    let one : with_change_spread t r ≡ y = spread_if t r true e in
    let heard : hears y ≡ true = (turned_start t r).hears ∙ e in
    let two : with_change_spread t y ≡ flush (with_change_started t y) = spread_if t y true heard in
    ap (with_change_spread t) one ∙ (two ∙ (ap flush (started_flush t (with_change_started t r) ∙ ap flush (started_twice t r (eqb r.port.tc_while 0) refl)) ∙ sym one))

abbrev begun_by : Timing → Bool → PortInEvent → PortInEvent
begun_by t edge r = cond edge (with_transition_counted r) (with_change_started t (with_transition_counted r))

-- a port that hears of a change and then begins to forward is as one that begins and then hears of it
begun_reported : (t : Timing) (r : PortInEvent) (edge : Bool) → r.port.oper_edge ≡ edge → hears r ≡ true → after_begin t (flush (with_change_started t r)) ≡ flush (with_change_started t (begun_by t edge r))
begun_reported t r true e h =
    let y = flush (with_change_started t r) in
    let at : y.port.oper_edge ≡ true = (turned_start t r).edge ∙ e in
    ap (λ b. begun_by t b y) at ∙ ap flush (counted_started t r)
begun_reported t r false e h =
    let y = flush (with_change_started t r) in
    let at : y.port.oper_edge ≡ false = (turned_start t r).edge ∙ e in
    ap (λ b. begun_by t b y) at ∙ (ap (with_change_started t) (ap flush (counted_started t r)) ∙ started_flush t (with_change_started t (with_transition_counted r)))

begun_spread : (t : Timing) (r : PortInEvent) (h : Bool) → hears r ≡ h → after_begin t (with_change_spread t r) ≡ with_change_spread t (after_begin t r)
begun_spread t r false e =
    ap (after_begin t) (spread_if t r false e) ∙ sym (spread_if t (after_begin t r) false ((turned_begun t r).hears ∙ e))
begun_spread t r true e =
    ap (after_begin t) (spread_if t r true e) ∙ (begun_reported t r r.port.oper_edge refl e ∙ sym (spread_if t (after_begin t r) true ((turned_begun t r).hears ∙ e)))

-- A port after some turns: its own is among them or not, and so is that of another port that starts a change.
abbrev stage : Timing → Bool → Bool → PortInEvent → PortInEvent
stage t own another r = cond another (with_change_spread t (cond own (after_begin t r) r)) (cond own (after_begin t r) r)

turned_stage : (t : Timing) (own another : Bool) (r : PortInEvent) → IsTurned r (stage t own another r)
turned_stage t own another r =
    let x = cond own (after_begin t r) r in
    let h = turned_if own r (after_begin t r) r (turned_begun t r) (turned_refl r) in
    turned_if another r (with_change_spread t x) x (turned_trans r x (with_change_spread t x) h (turned_spread t x)) h

stage_reported : (t : Timing) (own another : Bool) (r : PortInEvent) → with_change_spread t (stage t own another r) ≡ stage t own true r
stage_reported t own false r = refl
stage_reported t own true r = let x = cond own (after_begin t r) r in spread_twice t x (hears x) refl

stage_begun : (t : Timing) (another : Bool) (r : PortInEvent) → after_begin t (stage t false another r) ≡ stage t true another r
stage_begun t false r = refl
stage_begun t true r = begun_spread t r (hears r) refl

-- Whether the turn of row k is among the first n, where its port began to forward.
took : Bool → ℕ → ℕ → Bool
took b k zero = false
took b k (suc n) = cond (eqb n k) b (took b k n)

took_none : (b : Bool) (k n : ℕ) → n ≤ k → took b k n ≡ false
unfolding took
took_none b k zero h = refl
took_none b k (suc n) h = elim (eqb_tells n k) [
  | inl e ↦ absurd (omega (arith, e.1, h))
  | inr d ↦ ap (λ (c : Bool). cond c b (took b k n)) d.0 ∙ took_none b k n (omega (arith, h))
]

took_here : (b : Bool) (k : ℕ) → took b k (suc k) ≡ b
unfolding took
took_here b k = elim (eqb_tells k k) [ inl e ↦ ap (λ (c : Bool). cond c b (took b k k)) e.0 | inr d ↦ absurd (d.1 refl) ]

took_same : (b : Bool) (k n : ℕ) → n ≢ k → took b k (suc n) ≡ took b k n
unfolding took
took_same b k n h = elim (eqb_tells n k) [ inl e ↦ absurd (h e.1) | inr d ↦ ap (λ (c : Bool). cond c b (took b k n)) d.0 ]

took_all : (b : Bool) (k n : ℕ) → k < n → took b k n ≡ b
took_all b k zero h = absurd (omega (arith, h))
took_all b k (suc n) h = elim (eqb_tells n k) [
  | inl e ↦ ap (λ (m : ℕ). took b k (suc m)) e.1 ∙ took_here b k
  | inr d ↦ took_same b k n d.1 ∙ took_all b k n (omega (arith, h, d.1))
]

-- another port than that of row k starts a change
abbrev other : PortInEvent → PortInEvent → Bool
other r q = not (eqb q.inputs.number r.inputs.number) && starts_change q

abbrev staged : Timing → List PortInEvent → ℕ → ℕ → PortInEvent
staged t xs n k =
    let r = get_or xs k no_row in
    stage t (took (has_begun r) k n) (list_any (other r) (take n xs)) r

one_more : (xs : List PortInEvent) (r : PortInEvent) (n : ℕ) → n < length xs → list_any (other r) (take (suc n) xs) ≡ (list_any (other r) (take n xs) || other r (get_or xs n no_row))
one_more xs r n h =
    let e : suc n ≡ n + 1 = omega arith in
    ap (λ (m : ℕ). list_any (other r) (take m xs)) e ∙ list_any_more (other r) xs n no_row h

pub or_false : (b : Bool) → (b || false) ≡ b
or_false true = refl
or_false false = refl

pub or_true : (b : Bool) → (b || true) ≡ true
or_true true = refl
or_true false = refl

and_false : (b : Bool) → (b && false) ≡ false
and_false true = refl
and_false false = refl

pub same_number : (n : ℕ) → eqb n n ≡ true
same_number n = elim (eqb_tells n n) [ inl e ↦ e.0 | inr d ↦ absurd (d.1 refl) ]

-- a row that starts no change for the port of row r
quiet : (xs : List PortInEvent) (r : PortInEvent) (n : ℕ) → n < length xs → other r (get_or xs n no_row) ≡ false → list_any (other r) (take (suc n) xs) ≡ list_any (other r) (take n xs)
quiet xs r n h e = one_more xs r n h ∙ (ap (λ (b : Bool). list_any (other r) (take n xs) || b) e ∙ or_false (list_any (other r) (take n xs)))

not_itself : (r : PortInEvent) → other r r ≡ false
not_itself r = ap (λ (b : Bool). not b && starts_change r) (same_number r.inputs.number)

-- Row k after the turn of row n, where row k was as it is after the turns before.
record IsStaged (t : Timing) (xs ys : List PortInEvent) (n : ℕ) : Type 0 where
  same : length ys ≡ length xs
  at : (k : ℕ) → k < length xs → get_or ys k no_row ≡ staged t xs n k

staged_turned : (t : Timing) (xs ys : List PortInEvent) (n k : ℕ) → IsStaged t xs ys n → k < length xs → IsTurned (get_or xs k no_row) (get_or ys k no_row)
staged_turned t xs ys n k h b = subst (IsTurned (get_or xs k no_row)) (sym (h.at k b)) (turned_stage t _ _ (get_or xs k no_row))

-- where nothing starts, nothing changes
stays : (t : Timing) (xs : List PortInEvent) (n k : ℕ) → n < length xs → (n ≡ k → has_begun (get_or xs k no_row) ≡ false) → other (get_or xs k no_row) (get_or xs n no_row) ≡ false → staged t xs n k ≡ staged t xs (suc n) k
stays t xs n k h begins calm =
    let r = get_or xs k no_row in
    let own : took (has_begun r) k n ≡ took (has_begun r) k (suc n) = elim (eqb_tells n k) [
      | inl e ↦ took_none (has_begun r) k n (omega (arith, e.1)) ∙ (sym (begins e.1) ∙ (sym (took_here (has_begun r) k) ∙ ap (λ (m : ℕ). took (has_begun r) k (suc m)) (sym e.1)))
      | inr d ↦ sym (took_same (has_begun r) k n d.1)
    ] in
    λ i. stage t (own i) (sym (quiet xs r n h calm) i) r

-- the port whose turn it is begins to forward
begins_here : (t : Timing) (xs : List PortInEvent) (k : ℕ) → k < length xs → has_begun (get_or xs k no_row) ≡ true → after_begin t (staged t xs k k) ≡ staged t xs (suc k) k
begins_here t xs k h b =
    let r = get_or xs k no_row in
    let before : took (has_begun r) k k ≡ false = took_none (has_begun r) k k (omega arith) in
    let after : true ≡ took (has_begun r) k (suc k) = sym (took_here (has_begun r) k ∙ b) in
    let another = list_any (other r) (take k xs) in
    ap (λ (o : Bool). after_begin t (stage t o another r)) before ∙ (stage_begun t another r ∙ (λ i. stage t (after i) (sym (quiet xs r k h (not_itself r)) i) r))

-- another port hears of the change
reported_there : (t : Timing) (xs : List PortInEvent) (n k : ℕ) → n < length xs → n ≢ k → other (get_or xs k no_row) (get_or xs n no_row) ≡ true → with_change_spread t (staged t xs n k) ≡ staged t xs (suc n) k
reported_there t xs n k h d starts =
    let r = get_or xs k no_row in
    let now : true ≡ list_any (other r) (take (suc n) xs) = sym (one_more xs r n h ∙ (ap (λ (b : Bool). list_any (other r) (take n xs) || b) starts ∙ or_true (list_any (other r) (take n xs)))) in
    stage_reported t _ _ r ∙ (λ i. stage t (sym (took_same (has_begun r) k n d) i) (now i) r)

differ : (xs : List PortInEvent) → AreDistinct xs → (n k : ℕ) → n < length xs → k < length xs → n ≢ k → eqb (get_or xs n no_row).inputs.number (get_or xs k no_row).inputs.number ≡ false
differ xs distinct n k h b d = elim (eqb_tells (get_or xs n no_row).inputs.number (get_or xs k no_row).inputs.number) [
  | inl e ↦ absurd (d (distinct n k h b e.1))
  | inr e ↦ e.0
]

-- one turn
turn_staged : (t : Timing) (xs ys : List PortInEvent) (n : ℕ) → AreDistinct xs → n < length xs → IsStaged t xs ys n → IsStaged t xs (turn_at t ys n) (suc n)
turn_staged t xs ys n distinct h s = by (has_begun x) (x.port.oper_edge) refl refl where
  x : PortInEvent
  x = get_or xs n no_row

  by : (b e : Bool) → has_begun (get_or xs n no_row) ≡ b → (get_or xs n no_row).port.oper_edge ≡ e → IsStaged t xs (turn_at t ys n) (suc n)
  by b e hb he = subst (λ (zs : List PortInEvent). IsStaged t xs zs (suc n)) (sym turned) (cases b e hb he) where
    r : PortInEvent
    r = get_or ys n no_row

    one : List PortInEvent
    one = set ys n (after_begin t (get_or ys n no_row))

    kept : IsTurned (get_or xs n no_row) (get_or ys n no_row)
    kept = staged_turned t xs ys n n s h

    turned : turn_at t ys n ≡ cond b (cond e (set ys n (after_begin t (get_or ys n no_row))) (map (with_change_spread_but t (get_or ys n no_row).inputs.number) (set ys n (after_begin t (get_or ys n no_row))))) ys
    turned = λ i. cond ((kept.begins ∙ hb) i) (cond ((kept.edge ∙ he) i) (set ys n (after_begin t (get_or ys n no_row))) (map (with_change_spread_but t (get_or ys n no_row).inputs.number) (set ys n (after_begin t (get_or ys n no_row))))) ys

    within : n < length ys
    within = omega (arith, h, s.same)

    here : get_or (set ys n (after_begin t (get_or ys n no_row))) n no_row ≡ after_begin t (get_or ys n no_row)
    here = get_or-set_same ys n (after_begin t (get_or ys n no_row)) no_row within

    begun_at : has_begun (get_or xs n no_row) ≡ true → after_begin t (get_or ys n no_row) ≡ staged t xs (suc n) n
    begun_at begins = ap (after_begin t) (s.at n h) ∙ begins_here t xs n h begins

    set_at : has_begun (get_or xs n no_row) ≡ true → (k : ℕ) → k < length xs → (n ≢ k → get_or ys k no_row ≡ staged t xs (suc n) k) → get_or (set ys n (after_begin t (get_or ys n no_row))) k no_row ≡ staged t xs (suc n) k
    set_at begins k b there = elim (eqb_tells n k) [
      | inl q ↦ subst (λ (m : ℕ). get_or (set ys n (after_begin t (get_or ys n no_row))) m no_row ≡ staged t xs (suc n) m) q.1 (here ∙ begun_at begins)
      | inr d ↦ get_or-set_other ys n k (after_begin t (get_or ys n no_row)) no_row (λ q. d.1 (sym q)) ∙ there d.1
    ]

    spread_at : has_begun (get_or xs n no_row) ≡ true → (get_or xs n no_row).port.oper_edge ≡ false → (k : ℕ) → k < length xs → with_change_spread_but t (get_or ys n no_row).inputs.number (get_or (set ys n (after_begin t (get_or ys n no_row))) k no_row) ≡ staged t xs (suc n) k
    spread_at begins edge k b = elim (eqb_tells n k) [
      | inl q ↦ subst (λ (m : ℕ). with_change_spread_but t (get_or ys n no_row).inputs.number (get_or (set ys n (after_begin t (get_or ys n no_row))) m no_row) ≡ staged t xs (suc n) m) q.1 itself
      | inr d ↦ ap (with_change_spread_but t (get_or ys n no_row).inputs.number) (get_or-set_other ys n k (after_begin t (get_or ys n no_row)) no_row (λ q. d.1 (sym q))) ∙ another d.1
    ] where
      itself : with_change_spread_but t (get_or ys n no_row).inputs.number (get_or (set ys n (after_begin t (get_or ys n no_row))) n no_row) ≡ staged t xs (suc n) n
      itself =
          let y = after_begin t (get_or ys n no_row) in
          let number : eqb y.inputs.number (get_or ys n no_row).inputs.number ≡ true = ap (λ (m : ℕ). eqb m (get_or ys n no_row).inputs.number) (turned_begun t (get_or ys n no_row)).number ∙ same_number (get_or ys n no_row).inputs.number in
          ap (with_change_spread_but t (get_or ys n no_row).inputs.number) here ∙ (ap (λ (c : Bool). cond c y (with_change_spread t y)) number ∙ begun_at begins)

      starts : n ≢ k → other (get_or xs k no_row) (get_or xs n no_row) ≡ true
      starts d = λ i. not (differ xs distinct n k h b d i) && (begins i && not (edge i))

      another : n ≢ k → with_change_spread_but t (get_or ys n no_row).inputs.number (get_or ys k no_row) ≡ staged t xs (suc n) k
      another d =
          let y = get_or ys k no_row in
          let number : eqb y.inputs.number (get_or ys n no_row).inputs.number ≡ false = (λ i. eqb ((staged_turned t xs ys n k s b).number i) (kept.number i)) ∙ differ xs distinct k n b h (λ q. d (sym q)) in
          ap (λ (c : Bool). cond c y (with_change_spread t y)) number ∙ (ap (with_change_spread t) (s.at k b) ∙ reported_there t xs n k h d (starts d))

    cases : (b e : Bool) → has_begun (get_or xs n no_row) ≡ b → (get_or xs n no_row).port.oper_edge ≡ e → IsStaged t xs (cond b (cond e (set ys n (after_begin t (get_or ys n no_row))) (map (with_change_spread_but t (get_or ys n no_row).inputs.number) (set ys n (after_begin t (get_or ys n no_row))))) ys) (suc n)
    cases false e hb he = record {
      same = s.same;
      at = λ k b. s.at k b ∙ stays t xs n k h (λ q. ap (λ (m : ℕ). has_begun (get_or xs m no_row)) (sym q) ∙ hb) (ap (λ (c : Bool). not (eqb (get_or xs n no_row).inputs.number (get_or xs k no_row).inputs.number) && (c && not (get_or xs n no_row).port.oper_edge)) hb ∙ and_false (not (eqb (get_or xs n no_row).inputs.number (get_or xs k no_row).inputs.number)));
    }
    cases true true hb he = record {
      same = length-set ys n (after_begin t (get_or ys n no_row)) ∙ s.same;
      at = λ k b. set_at hb k b (λ d. s.at k b ∙ stays t xs n k h (λ q. absurd (d q)) ((λ i. not (eqb (get_or xs n no_row).inputs.number (get_or xs k no_row).inputs.number) && (hb i && not (he i))) ∙ and_false (not (eqb (get_or xs n no_row).inputs.number (get_or xs k no_row).inputs.number))));
    }
    cases true false hb he = record {
      same = length-map (set ys n (after_begin t (get_or ys n no_row))) (with_change_spread_but t (get_or ys n no_row).inputs.number) ∙ (length-set ys n (after_begin t (get_or ys n no_row)) ∙ s.same);
      at = λ k b. get_or-map (with_change_spread_but t (get_or ys n no_row).inputs.number) (set ys n (after_begin t (get_or ys n no_row))) k no_row no_row (omega (arith, b, s.same, length-set ys n (after_begin t (get_or ys n no_row)))) ∙ spread_at hb he k b;
    }

first_staged : (t : Timing) (xs : List PortInEvent) → AreDistinct xs → (n : ℕ) → n ≤ length xs → IsStaged t xs (first_turns t n xs) n
first_staged t xs distinct zero h = record { same = refl; at = at } where
  at : (k : ℕ) → k < length xs → get_or xs k no_row ≡ staged t xs zero k
  at k b =
      let r = get_or xs k no_row in
      sym (ap (λ (o : Bool). stage t o false r) (took_none (has_begun r) k 0 (omega arith)))
first_staged t xs distinct (suc n) h =
    turn_staged t xs (first_turns t n xs) n distinct (omega (arith, h)) (first_staged t xs distinct n (omega (arith, h)))

-- all turns
pub turns_closed : (t : Timing) (rows : List PortInEvent) → AreDistinct rows → turns t rows ≡ map (λ r. with_changes_signalled t (another_starts rows r) r) rows
turns_closed t xs distinct =
    let f : PortInEvent → PortInEvent = λ r. with_changes_signalled t (another_starts xs r) r in
    let s = first_staged t xs distinct (length xs) (omega arith) in
    ext_get_or no_row (turns t xs) (map f xs) (s.same ∙ sym (length-map xs f)) (λ k b.
    let within : k < length xs = omega (arith, b, s.same) in
    let r = get_or xs k no_row in
    s.at k within ∙ ((λ i. stage t (took_all (has_begun r) k (length xs) within i) (ap (list_any (other r)) (take_all (length xs) xs (omega arith)) i) r) ∙ sym (get_or-map f xs k no_row no_row within)))
