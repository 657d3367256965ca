use Rattle.std.proofs.Common.{◌≡◌, ◌++◌, map, take, drop}
use Rattle.rstp_rules.specs.Arrivals.{after_reception}
use Rattle.rstp_core.proofs.loops.receive_all.Given as goal

abbrev pub invariant-loop-row : goal.invariant-loop-row
invariant-loop-row l = l.rows ≡ map (after_reception l.own l.rstp l.port l.bpdu) (take l.row-index l.fn.rows) ++ drop l.row-index l.fn.rows
