use Rattle.vacm_core.proofs.LeftRows.{AreLeft}
use Rattle.vacm_core.proofs.by_view.last_left.Given as goal

-- each row that is of the view and has the name is still left
abbrev pub invariant-bits : goal.invariant-bits
invariant-bits l = AreLeft l.rows l.view l.name l.numbers l.left

-- the bits that are left
abbrev pub decreases-bits : goal.decreases-bits
decreases-bits l = l.left
