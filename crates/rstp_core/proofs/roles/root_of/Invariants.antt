use Rattle.std.proofs.Common.{◌≡◌, take}
use Rattle.std.specs.List.{filter_map, best_of}
use Rattle.rstp_rules.specs.Roles.{beats, own_best, candidate}
use Rattle.rstp_core.proofs.roles.root_of.Given as goal

abbrev pub invariant-loop-row : goal.invariant-loop-row
invariant-loop-row l = l.best ≡ best_of beats (own_best l.own) (filter_map (candidate l.own) (take l.row-index l.rows))
