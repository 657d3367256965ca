-- What the items of an interval amount to, one item more.
use Rattle.std.proofs.Common.{◌≡◌, ◌∙◌, ℕ, ◌+◌, Bool, List, [], ◌∷◌, ◌++◌, length, refl, sym, ap, arith, length-append}
use Rattle.std.specs.Prelude.{min, Option, Some, None}
use Rattle.std.specs.List.{filter}
use Rattle.std.proofs.lemmas.List.Elements.{filter-append}
use Rattle.message_core.specs.declared.cause.DropCause.{DropCause}
use Rattle.message_core.specs.declared.cause.DropCause.TheVariants.{TooLong, Malformed, BadVersion, BadKind, Memory}
use Rattle.live_agent.specs.Turns.{entered_in}
use Rattle.live_agent.specs.declared.trace.Item.{Item}
use Rattle.live_agent.specs.declared.trace.Item.TheVariants as item
use Rattle.live_agent.proofs.Running.{entered_in-append}
use Rattle.live_run.specs.Reports.{refused_in, count_up_to_max}
use Rattle.live_run.proofs.Counts.{refused_in-append, count_up_to_max-twice}
use Rattle.live_laps.specs.Laps.{is_first_entered}
use Rattle.live_laps.specs.Notes.{worked_in, dropped_by, is_dropped_by, drops_in, both_drops}
use Rattle.live_laps.specs.Sums.{sum_of, first_entered}
use Rattle.live_laps.specs.declared.book.Drops.{Drops}
use Rattle.live_laps.specs.declared.book.Worked.{Worked}
use Rattle.live_laps.specs.declared.sum.IntervalSum.{IntervalSum}

dropped_by-append : (cause : DropCause) (xs ys : List Item) → dropped_by cause (xs ++ ys) ≡ dropped_by cause xs + dropped_by cause ys
dropped_by-append cause xs ys =
    ap length (filter-append (is_dropped_by cause) xs ys) ∙ length-append (filter (is_dropped_by cause) xs) (filter (is_dropped_by cause) ys)

-- two counts, each up to the largest number, as one
both : (n m : ℕ) → count_up_to_max (count_up_to_max n + count_up_to_max m) ≡ count_up_to_max (n + m)
both n m = count_up_to_max-twice (count_up_to_max n) n m (count_up_to_max m) _ refl refl refl

dropped_more : (cause : DropCause) (xs ys : List Item) → count_up_to_max (count_up_to_max (dropped_by cause xs) + count_up_to_max (dropped_by cause ys)) ≡ count_up_to_max (dropped_by cause (xs ++ ys))
dropped_more cause xs ys = both (dropped_by cause xs) (dropped_by cause ys) ∙ ap count_up_to_max (sym (dropped_by-append cause xs ys))

drops_more : (xs ys : List Item) → both_drops (drops_in xs) (drops_in ys) ≡ drops_in (xs ++ ys)
drops_more xs ys = rw (dropped_more TooLong xs ys, dropped_more Malformed xs ys, dropped_more BadVersion xs ys, dropped_more BadKind xs ys, dropped_more Memory xs ys) refl

same_worked : (a b : Worked) → a.requests ≡ b.requests → a.drops ≡ b.drops → a.by_cause ≡ b.by_cause → a ≡ b
same_worked a b requests drops by_cause =
    let made : ℕ → ℕ → Drops → Worked = λ r d c. record { requests = r; drops = d; by_cause = c } in
    ap (λ r. made r a.drops a.by_cause) requests ∙ ap (λ d. made b.requests d a.by_cause) drops ∙ ap (λ c. made b.requests b.drops c) by_cause

pub worked_more : (old more new : Worked) (xs ys : List Item) → old ≡ worked_in xs → more ≡ worked_in ys
    → new.requests ≡ count_up_to_max (old.requests + more.requests) → new.drops ≡ count_up_to_max (old.drops + more.drops) → new.by_cause ≡ both_drops old.by_cause more.by_cause
    → new ≡ worked_in (xs ++ ys)
worked_more old more new xs ys was adds requests drops by_cause =
    same_worked new (worked_in (xs ++ ys))
    ((rw (was, adds) at requests) ∙ both (entered_in xs) (entered_in ys) ∙ ap count_up_to_max (sym (entered_in-append xs ys)))
    ((rw (was, adds) at drops) ∙ both (refused_in xs) (refused_in ys) ∙ ap count_up_to_max (sym (refused_in-append xs ys)))
    ((rw (was, adds) at by_cause) ∙ drops_more xs ys)

-- the first of items stays it
pub first_more : (xs : List Item) (x : Item) (first later : Option Bool) → first ≡ first_entered xs
    → (first ≡ None → later ≡ Some (is_first_entered (x ∷ []))) → ((entered : Bool) → first ≡ Some entered → later ≡ first) → later ≡ first_entered (xs ++ x ∷ [])
first_more [] x first later was new old = new was
first_more (y ∷ xs) x first later was new old = old (is_first_entered (y ∷ [])) was ∙ was

pub same_sum : (a b : IntervalSum) → a.worked ≡ b.worked → a.first_entered ≡ b.first_entered → a ≡ b
same_sum a b worked first =
    let made : Worked → Option Bool → IntervalSum = λ w f. record { worked = w; first_entered = f } in
    ap (λ w. made w a.first_entered) worked ∙ ap (λ f. made b.worked f) first
