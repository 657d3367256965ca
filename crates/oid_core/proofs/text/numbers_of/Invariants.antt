use Rattle.std.proofs.Common.{length}
use Rattle.std.specs.Option.{option_copied}
use Rattle.oid_core.specs.Text.{pieces_left}
use Rattle.oid_core.proofs.Texts.{IsReadSoFar}
use Rattle.oid_core.proofs.text.numbers_of.Given as goal

abbrev pub invariant-loop-left : goal.invariant-loop-left
invariant-loop-left l = IsReadSoFar l.text (pieces_left (option_copied l.left)) l.numbers.items l.too_long

abbrev pub decreases-loop-left : goal.decreases-loop-left
decreases-loop-left l = length (pieces_left (option_copied l.left))
