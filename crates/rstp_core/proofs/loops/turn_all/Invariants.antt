use Rattle.std.proofs.Common.{◌≡◌, ◌++◌, map, take, drop}
use Rattle.rstp_rules.specs.Transitions.{after_first_transitions}
use Rattle.rstp_core.proofs.loops.turn_all.Given as goal

abbrev pub invariant-loop-row : goal.invariant-loop-row
invariant-loop-row l = l.rows ≡ map (after_first_transitions l.context) (take l.row-index l.fn.rows) ++ drop l.row-index l.fn.rows
