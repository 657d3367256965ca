use Rattle.std.proofs.Common.{◌≡◌, ◌++◌, map, take, drop}
use Rattle.rstp_rules.specs.Ticks.{after_hello_step}
use Rattle.rstp_core.proofs.loops.greet_all.Given as goal

abbrev pub invariant-loop-row : goal.invariant-loop-row
invariant-loop-row l = l.rows ≡ map (after_hello_step l.context.timing) (take l.row-index l.fn.rows) ++ drop l.row-index l.fn.rows
