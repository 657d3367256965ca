use Rattle.std.proofs.Common.{◌≡◌, ◌++◌, map, take, drop}
use Rattle.rstp_rules.specs.Transitions.{after_synchronization}
use Rattle.rstp_core.proofs.loops.synchronize_all.Given as goal

abbrev pub invariant-loop-row : goal.invariant-loop-row
invariant-loop-row l = l.rows ≡ map (after_synchronization l.context) (take l.row-index l.fn.rows) ++ drop l.row-index l.fn.rows
