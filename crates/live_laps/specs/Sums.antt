-- The counts of the items of an interval.
use Rattle.std.specs.Prelude.{◌≡◌, Bool, List, [], ◌∷◌, ◌++◌, Option, Some, None}
use Rattle.live_agent.specs.declared.trace.Item.{Item}
use Rattle.live_laps.specs.Laps.{is_first_entered}
use Rattle.live_laps.specs.Notes.{worked_in}
use Rattle.live_laps.specs.declared.sum.IntervalSum.{IntervalSum}

-- whether the first item is an entry, where there is one
abbrev pub first_entered : List Item → Option Bool
first_entered [] = None
first_entered (item ∷ items) = Some (is_first_entered (item ∷ []))

abbrev pub sum_of : List Item → IntervalSum
sum_of items = record { worked = worked_in items; first_entered = first_entered items }

-- These items were added to a sum: of whichever items it was, it is then that of those and these.
abbrev pub Sums : IntervalSum → List Item → IntervalSum → Type 0
Sums a items b = (before : List Item) → a ≡ sum_of before → b ≡ sum_of (before ++ items)
