-- Rows by their place.
use Rattle.std.proofs.Common.{◌≡◌, ℕ, zero, suc, ◌+◌, ◌<◌, Bool, true, false, cond, List, [], ◌∷◌, length, get_or, set, map, ◌⊎◌, inl, inr, refl, sym, ap, subst, ◌∙◌, arith, Contains, All}
use Rattle.std.specs.List.{filter_map, filter}
use Rattle.std.specs.Prelude.{Option, Some, None}
use Rattle.std.proofs.lemmas.List.{get_or-set_same, get_or-set_other, get_or-map, length-map, length-set, get_or_default}
use Rattle.std.proofs.lemmas.List.Elements.{All-contains, All-cons, All-head}
use Rattle.std.proofs.lemmas.Bool.Decides.{eqb_tells}
use Rattle.frame_core.specs.declared.bpdu.BridgeId.{BridgeId}
use Rattle.rstp_settings.specs.Table.{Table}
use Rattle.rstp_settings.specs.declared.config.PortConfig.{PortConfig}
use Rattle.rstp_rules.specs.declared.port.Port.{Port}
use Rattle.rstp_rules.specs.declared.row.PortInEvent.{PortInEvent}
use Rattle.rstp_rules.specs.declared.row.Best.{Best}
use Rattle.rstp_rules.specs.declared.row.Context.{Context}
use Rattle.rstp_rules.specs.declared.row.Timing.{Timing}
use Rattle.rstp_rules.specs.Lines.{row_of}
use Rattle.rstp_settings.specs.Config.{no_config}
use Rattle.rstp_rules.specs.Roles.{candidate, candidates, own_best, beats, IsBest}
use Rattle.rstp_rules.specs.Transitions.{after_first_transitions, after_synchronization, after_synchronizations, after_advance, after_advances, no_recent_root}
use Rattle.rstp_rules.specs.Turns.{no_row, with_change_spread_but, after_begin, turn_at, first_turns, turns}
use Rattle.rstp_rules.specs.Ticks.{after_hello_step}
use Rattle.rstp_rules.specs.Sends.{after_sending}
use Rattle.rstp_core.specs.Settled.{SettledValues, settled_port}
use Rattle.rstp_core.specs.Passes.{before_turns, after_hello_steps, ready}
use Rattle.rstp_core.specs.Tree.{rows_from}
use Rattle.rstp_core.proofs.Keeps.{Keeps, Keeps-refl, Keeps-trans, synced-keeps, advanced-keeps, spread_but-keeps, begun-keeps, greeted-keeps, sent-keeps}

-- the rows as an event begins
pub length-rows_from : (s : Table) (w : SettledValues) (n : ℕ) (cs : List PortConfig) (ps : List Port) → length cs ≡ length ps → length (rows_from s w n cs ps) ≡ length ps
length-rows_from s w n [] [] e = refl
length-rows_from s w n [] (p ∷ ps) e = absurd (omega arith)
length-rows_from s w n (c ∷ cs) [] e = refl
length-rows_from s w n (c ∷ cs) (p ∷ ps) e = ap suc (length-rows_from s w (n + 1) cs ps (omega arith))

pub rows_from-at : (s : Table) (w : SettledValues) (n : ℕ) (cs : List PortConfig) (ps : List Port) (k : ℕ) → length cs ≡ length ps → k < length ps → get_or (rows_from s w n cs ps) k no_row ≡ row_of s (settled_port w (n + k)) (n + k) (get_or cs k no_config) (get_or ps k no_row.port)
rows_from-at s w n [] [] k e h = absurd (omega arith)
rows_from-at s w n [] (p ∷ ps) k e h = absurd (omega arith)
rows_from-at s w n (c ∷ cs) [] k e h = absurd (omega arith)
rows_from-at s w n (c ∷ cs) (p ∷ ps) zero e h = let m : n + 0 ≡ n = omega arith in rw m
rows_from-at s w n (c ∷ cs) (p ∷ ps) (suc k) e h = let m : n + suc k ≡ (n + 1) + k = omega arith in rw m (rows_from-at s w (n + 1) cs ps k (omega arith) (omega arith))

-- what a pass over all rows leaves at each place, of what it found there
pub record AllHold (R : PortInEvent → PortInEvent → Type 0) (xs ys : List PortInEvent) : Type 0 where
  pub same : length ys ≡ length xs
  pub at : (k : ℕ) → k < length xs → R (get_or xs k no_row) (get_or ys k no_row)

-- what passes hold one after another
pub record IsHeld (R : PortInEvent → PortInEvent → Type 0) : Type 0 where
  pub still : (r : PortInEvent) → R r r
  pub next : (r q p : PortInEvent) → R r q → R q p → R r p

pub hold-refl : (R : PortInEvent → PortInEvent → Type 0) → IsHeld R → (xs : List PortInEvent) → AllHold R xs xs
hold-refl R held xs = record { same = refl; at = λ k _. held.still (get_or xs k no_row) }

pub hold-trans : (R : PortInEvent → PortInEvent → Type 0) → IsHeld R → (xs ys zs : List PortInEvent) → AllHold R xs ys → AllHold R ys zs → AllHold R xs zs
hold-trans R held xs ys zs h i = record {
  same = i.same ∙ h.same;
  at = λ k b. held.next (get_or xs k no_row) (get_or ys k no_row) (get_or zs k no_row) (h.at k b) (i.at k (omega (arith, b, h.same)));
}

pub hold-map : (R : PortInEvent → PortInEvent → Type 0) (f : PortInEvent → PortInEvent) (xs : List PortInEvent) → ((r : PortInEvent) → R r (f r)) → AllHold R xs (map f xs)
hold-map R f xs h = record {
  same = length-map xs f;
  at = λ k b. subst (R (get_or xs k no_row)) (sym (get_or-map f xs k no_row no_row b)) (h (get_or xs k no_row));
}

pub hold-if : (R : PortInEvent → PortInEvent → Type 0) (b : Bool) (xs ys zs : List PortInEvent) → AllHold R xs ys → AllHold R xs zs → AllHold R xs (cond b ys zs)
hold-if R true xs ys zs h i = h
hold-if R false xs ys zs h i = i

-- what each turn holds
pub record HoldsTurns (R : PortInEvent → PortInEvent → Type 0) (t : Timing) : Type 0 where
  pub held : IsHeld R
  pub begins : (r : PortInEvent) → R r (after_begin t r)
  pub spreads : (n : ℕ) (r : PortInEvent) → R r (with_change_spread_but t n r)

hold-set : (R : PortInEvent → PortInEvent → Type 0) (t : Timing) → HoldsTurns R t → (xs : List PortInEvent) (k : ℕ) → AllHold R xs (set xs k (after_begin t (get_or xs k no_row)))
hold-set R t h xs k = record { same = length-set xs k (after_begin t (get_or xs k no_row)); at = at } where
  at : (i : ℕ) → i < length xs → R (get_or xs i no_row) (get_or (set xs k (after_begin t (get_or xs k no_row))) i no_row)
  at i b = elim (eqb_tells i k) [
    | inl e ↦ subst (λ (m : ℕ). R (get_or xs i no_row) (get_or (set xs m (after_begin t (get_or xs m no_row))) i no_row)) e.1 here
    | inr d ↦ subst (R (get_or xs i no_row)) (sym (get_or-set_other xs k i (after_begin t (get_or xs k no_row)) no_row d.1)) (h.held.still (get_or xs i no_row))
  ] where
    here : R (get_or xs i no_row) (get_or (set xs i (after_begin t (get_or xs i no_row))) i no_row)
    here = subst (R (get_or xs i no_row)) (sym (get_or-set_same xs i (after_begin t (get_or xs i no_row)) no_row b)) (h.begins (get_or xs i no_row))

hold-turn : (R : PortInEvent → PortInEvent → Type 0) (t : Timing) → HoldsTurns R t → (xs : List PortInEvent) (k : ℕ) → AllHold R xs (turn_at t xs k)
hold-turn R t h xs k =
    let r = get_or xs k no_row in
    let one = set xs k (after_begin t r) in
    hold-if R _ xs _ xs (hold-if R _ xs one _ (hold-set R t h xs k) (hold-trans R h.held xs one (map (with_change_spread_but t r.inputs.number) one) (hold-set R t h xs k) (hold-map R (with_change_spread_but t r.inputs.number) one (h.spreads r.inputs.number)))) (hold-refl R h.held xs)

pub hold-turns : (R : PortInEvent → PortInEvent → Type 0) (t : Timing) → HoldsTurns R t → (n : ℕ) (xs : List PortInEvent) → AllHold R xs (first_turns t n xs)
hold-turns R t h zero xs = hold-refl R h.held xs
hold-turns R t h (suc n) xs = hold-trans R h.held xs (first_turns t n xs) (turn_at t (first_turns t n xs) n) (hold-turns R t h n xs) (hold-turn R t h (first_turns t n xs) n)

-- what a pass over all rows keeps at each place
abbrev pub AllKeep : List PortInEvent → List PortInEvent → Type 0
AllKeep xs ys = AllHold Keeps xs ys

kept : IsHeld Keeps
kept = record { still = Keeps-refl; next = Keeps-trans }

keep-turns : (t : Timing) → HoldsTurns Keeps t
keep-turns t = record { held = kept; begins = begun-keeps t; spreads = spread_but-keeps t }

-- the states: d and e
pub keep-advanced : (c : Context) (rows : List PortInEvent) → AllKeep (map (after_first_transitions c) rows) (before_turns c rows)
keep-advanced c rows =
    let a = map (after_first_transitions c) rows in
    let b = after_synchronizations c a in
    let d = after_advances c b in
    let one : AllKeep a b = hold-if Keeps _ a (map (after_synchronization c) a) a (hold-map Keeps (after_synchronization c) a (synced-keeps c)) (hold-refl Keeps kept a) in
    let two : AllKeep b d = hold-map Keeps (after_advance c (no_recent_root b)) b (advanced-keeps c (no_recent_root b)) in
    hold-trans Keeps kept a b d one two

-- f, and the hello step
pub keep-ready : (tick : Bool) (c : Context) (rows : List PortInEvent) → AllKeep (map (after_first_transitions c) rows) (ready tick c rows)
keep-ready tick c rows =
    let a = map (after_first_transitions c) rows in
    let d = before_turns c rows in
    let e = turns c.timing d in
    let three : AllKeep d e = hold-turns Keeps c.timing (keep-turns c.timing) (length d) d in
    let four : AllKeep e (after_hello_steps tick c e) = hold-if Keeps tick e (map (after_hello_step c.timing) e) e (hold-map Keeps (after_hello_step c.timing) e (greeted-keeps c.timing)) (hold-refl Keeps kept e) in
    hold-trans Keeps kept a d (after_hello_steps tick c e) (keep-advanced c rows) (hold-trans Keeps kept d e (after_hello_steps tick c e) three four)

pub keep-sent : (c : Context) (rows : List PortInEvent) → AllKeep rows (map (after_sending c) rows)
keep-sent c rows = hold-map Keeps (after_sending c) rows (sent-keeps c)

some_none : (b : Best) → Some b ≡ None → ⊥
some_none b e = cc

-- where a candidate comes from
pub record IsFrom (own : BridgeId) (rows : List PortInEvent) (b : Best) : Type 0 where
  pub place : ℕ
  pub within : place < length rows
  pub offers : candidate own (get_or rows place no_row) ≡ Some b

from_rest : (own : BridgeId) (r : PortInEvent) (rows : List PortInEvent) (b : Best) → IsFrom own rows b → IsFrom own (r ∷ rows) b
from_rest own r rows b h = record { place = suc h.place; within = omega (arith, h.within); offers = h.offers }

pub candidate_from : (own : BridgeId) (rows : List PortInEvent) (b : Best) (k : ℕ) → k < length (filter_map (candidate own) rows) → get_or (filter_map (candidate own) rows) k b ≡ b → IsFrom own rows b
candidate_from own [] b k h e = absurd (omega arith)
candidate_from own (r ∷ rows) b k h e = by (candidate_from own rows b) (candidate own r) refl k h e where
  by : ((j : ℕ) → j < length (filter_map (candidate own) rows) → get_or (filter_map (candidate own) rows) j b ≡ b → IsFrom own rows b) → (o : Option Best) → candidate own r ≡ o → (k : ℕ) → k < length (filter_map (candidate own) (r ∷ rows)) → get_or (filter_map (candidate own) (r ∷ rows)) k b ≡ b → IsFrom own (r ∷ rows) b
  by rest None n k h e = from_rest own r rows b (rest k (rw n at h) (rw n at e))
  by rest (Some c) n zero h e = record { place = 0; within = omega arith; offers = n ∙ ap Some (rw n at e) }
  by rest (Some c) n (suc k) h e = let within : suc k < suc (length (filter_map (candidate own) rows)) = rw n at h in from_rest own r rows b (rest k (omega (arith, within)) (rw n at e))

-- a port whose learned rows go is among the flushed ones
contains_rest : (b : Bool) (r : PortInEvent) (rows : List PortInEvent) (n : ℕ) → Contains (map (λ x. x.inputs.number) rows) n → Contains (map (λ x. x.inputs.number) (cond b (r ∷ rows) rows)) n
contains_rest true r rows n h = (suc h.0, omega (arith, h.1), h.2)
contains_rest false r rows n h = h

pub contains_flushed : (rows : List PortInEvent) (k n : ℕ) → k < length rows → (get_or rows k no_row).inputs.number ≡ n → (get_or rows k no_row).flushed ≡ true → Contains (map (λ r. r.inputs.number) (filter (λ r. r.flushed) rows)) n
contains_flushed [] k n h e f = absurd (omega arith)
contains_flushed (r ∷ rows) zero n h e f = rw f (0, omega arith, e)
contains_flushed (r ∷ rows) (suc k) n h e f = contains_rest r.flushed r (filter (λ x. x.flushed) rows) n (contains_flushed rows k n (omega arith) e f)

-- and what a row offers is a candidate
pub contains_candidate : (own : BridgeId) (rows : List PortInEvent) (b : Best) (k : ℕ) → k < length rows → candidate own (get_or rows k no_row) ≡ Some b → Contains (filter_map (candidate own) rows) b
contains_candidate own [] b k h e = absurd (omega arith)
contains_candidate own (r ∷ rows) b zero h e = rw e (0, omega arith, refl)
contains_candidate own (r ∷ rows) b (suc k) h e = by (candidate own r) refl (contains_candidate own rows b k (omega arith) e) where
  by : (o : Option Best) → candidate own r ≡ o → Contains (filter_map (candidate own) rows) b → Contains (filter_map (candidate own) (r ∷ rows)) b
  by None n c = rw n c
  by (Some x) n c = rw n (suc c.0, omega (arith, c.1), c.2)

-- What rows offer less than others did.
pub record OfferLess (own : BridgeId) (best : Best) (old new : List PortInEvent) : Type 0 where
  pub same : length new ≡ length old
  pub less : (k : ℕ) → k < length old → (candidate own (get_or new k no_row) ≡ None) ⊎ (candidate own (get_or new k no_row) ≡ candidate own (get_or old k no_row))
  pub root : (k : ℕ) → k < length old → candidate own (get_or old k no_row) ≡ Some best → candidate own (get_or new k no_row) ≡ Some best

-- The best of the candidates stays the best where the others only become fewer.
best_one : (own : BridgeId) (best : Best) (old new : List PortInEvent) → OfferLess own best old new → (k : ℕ) → k < length (candidates own old) → get_or (candidates own old) k best ≡ best → Contains (candidates own new) best
best_one own best old new h zero b e = (0, omega arith, e)
best_one own best old new h (suc k) b e =
    let from = candidate_from own old best k (omega arith) e in
    let within : from.place < length new = omega (arith, from.within, h.same) in
    let c = contains_candidate own new best from.place within (h.root from.place from.within from.offers) in
    (suc c.0, omega (arith, c.1), c.2)

best_least : (own : BridgeId) (best : Best) (old new : List PortInEvent) → OfferLess own best old new → All (λ c. beats c best ≡ false) (candidates own old) → All (λ c. beats c best ≡ false) (filter_map (candidate own) new)
best_least own best old new h all = λ k d b.
    let c = get_or (filter_map (candidate own) new) k d in
    let from = candidate_from own new c k b (get_or_default (filter_map (candidate own) new) k c d b) in
    let within : from.place < length old = omega (arith, from.within, h.same) in
    elim (h.less from.place within) [
      | inl e ↦ absurd (some_none c (sym from.offers ∙ e))
      | inr e ↦
          let old_one = contains_candidate own old c from.place within (sym e ∙ from.offers) in
          All-contains (λ x. beats x best ≡ false) (candidates own old) c all (suc old_one.0, omega (arith, old_one.1), old_one.2)
    ]

pub best_stays : (own : BridgeId) (best : Best) (old new : List PortInEvent) → OfferLess own best old new → IsBest (candidates own old) best → IsBest (candidates own new) best
best_stays own best old new h b = record {
  one = best_one own best old new h b.one.0 b.one.1 b.one.2;
  least = All-cons (λ c. beats c best ≡ false) (own_best own) (filter_map (candidate own) new) (All-head (λ c. beats c best ≡ false) (own_best own) (filter_map (candidate own) old) b.least) (best_least own best old new h b.least);
}
