use Rattle.std.proofs.Common.{◌≡◌, drop}
use Rattle.vacm_core.specs.Families.{agrees_from}
use Rattle.vacm_core.proofs.deciding.agrees_by_bits.Given as goal

-- what is left decides
abbrev pub invariant-loop-k : goal.invariant-loop-k
invariant-loop-k l = agrees_from 0 l.mask l.subtree l.name ≡ agrees_from l.k l.mask (drop l.k l.subtree) (drop l.k l.name)
