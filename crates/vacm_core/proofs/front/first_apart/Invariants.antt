use Rattle.std.proofs.Common.{◌≡◌, drop}
use Rattle.vacm_core.specs.Fronts.{front_apart}
use Rattle.vacm_core.proofs.front.first_apart.Given as goal

-- what is left decides
abbrev pub invariant-loop-k : goal.invariant-loop-k
invariant-loop-k l = front_apart 0 l.mask l.subtree l.name ≡ front_apart l.k l.mask (drop l.k l.subtree) (drop l.k l.name)
