use Rattle.std.proofs.Common.{◌≡◌, ◌++◌, map, take, drop}
use Rattle.rstp_rules.specs.Transitions.{after_advance}
use Rattle.rstp_core.proofs.loops.advance_all.Given as goal

abbrev pub invariant-loop-row : goal.invariant-loop-row
invariant-loop-row l = l.rows ≡ map (after_advance l.context l.clear) (take l.row-index l.fn.rows) ++ drop l.row-index l.fn.rows
