-- Items that were added to a sum, one list behind another.
use Rattle.std.proofs.Common.{◌≡◌, ◌∙◌, List, [], ◌++◌, sym, ap, append_assoc, append-nil}
use Rattle.live_agent.specs.declared.trace.Item.{Item}
use Rattle.live_laps.specs.Sums.{sum_of, Sums}
use Rattle.live_laps.specs.declared.sum.IntervalSum.{IntervalSum}

pub sums_none : (a : IntervalSum) → Sums a [] a
sums_none a = λ before is. is ∙ ap sum_of (sym (append-nil before))

pub sums_more : (a b c : IntervalSum) (xs ys : List Item) → Sums a xs b → Sums b ys c → Sums a (xs ++ ys) c
sums_more a b c xs ys one more = λ before is.
    more (before ++ xs) (one before is) ∙ ap sum_of (append_assoc before xs ys)
