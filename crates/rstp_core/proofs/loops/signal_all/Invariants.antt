use Rattle.std.proofs.Common.{◌≡◌, ◌++◌, map, take, drop}
use Rattle.rstp_rules.specs.Arrivals.{after_change_notice}
use Rattle.rstp_core.proofs.loops.signal_all.Given as goal

abbrev pub invariant-loop-row : goal.invariant-loop-row
invariant-loop-row l = l.rows ≡ map (after_change_notice l.timing l.own l.port l.bpdu l.change) (take l.row-index l.fn.rows) ++ drop l.row-index l.fn.rows
