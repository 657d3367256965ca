use Rattle.std.proofs.Common.{◌≡◌, ◌++◌, map, take, drop}
use Rattle.rstp_rules.specs.Restarts.{after_settling}
use Rattle.rstp_core.proofs.loops.settle_all.Given as goal

abbrev pub invariant-loop-row : goal.invariant-loop-row
invariant-loop-row l = l.rows ≡ map (after_settling l.version_changed) (take l.row-index l.fn.rows) ++ drop l.row-index l.fn.rows
