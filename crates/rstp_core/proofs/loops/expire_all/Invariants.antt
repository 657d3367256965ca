use Rattle.std.proofs.Common.{◌≡◌, ◌++◌, map, take, drop}
use Rattle.rstp_rules.specs.Roles.{after_expiry}
use Rattle.rstp_core.proofs.loops.expire_all.Given as goal

abbrev pub invariant-loop-row : goal.invariant-loop-row
invariant-loop-row l = l.rows ≡ map (after_expiry) (take l.row-index l.fn.rows) ++ drop l.row-index l.fn.rows
