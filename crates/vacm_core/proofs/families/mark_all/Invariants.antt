use Rattle.vacm_core.specs.Trees.{reaches}
use Rattle.vacm_core.proofs.FamilyWays.{MarkedSo}
use Rattle.vacm_core.proofs.families.mark_all.Given as goal

-- the rows so far are marked
abbrev pub invariant-loop-row : goal.invariant-loop-row
invariant-loop-row l = MarkedSo (reaches l.tree) l.rows l.row-index
