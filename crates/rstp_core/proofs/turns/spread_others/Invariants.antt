use Rattle.std.proofs.Common.{◌≡◌, ◌++◌, map, take, drop}
use Rattle.rstp_rules.specs.Turns.{with_change_spread_but}
use Rattle.rstp_core.proofs.turns.spread_others.Given as goal

abbrev pub invariant-loop-row : goal.invariant-loop-row
invariant-loop-row l = l.rows ≡ map (with_change_spread_but l.timing l.port) (take l.row-index l.fn.rows) ++ drop l.row-index l.fn.rows
