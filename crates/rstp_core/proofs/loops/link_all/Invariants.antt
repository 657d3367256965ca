use Rattle.std.proofs.Common.{◌≡◌, ◌++◌, map, take, drop}
use Rattle.rstp_rules.specs.Restarts.{after_link}
use Rattle.rstp_core.proofs.loops.link_all.Given as goal

abbrev pub invariant-loop-row : goal.invariant-loop-row
invariant-loop-row l = l.rows ≡ map (after_link l.port l.up) (take l.row-index l.fn.rows) ++ drop l.row-index l.fn.rows
