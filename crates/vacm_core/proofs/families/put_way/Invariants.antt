use Rattle.std.proofs.Common.{◌≡◌, ◌∷◌, ◌++◌, length, map, take}
use Rattle.vacm_core.specs.Trees.{counting_part, view_way, subtree_way}
use Rattle.vacm_core.proofs.families.put_way.Given as goal

-- the steps of the view so far
abbrev pub invariant-loop-octet : goal.invariant-loop-octet
invariant-loop-octet l = record {
  view : l.view ≡ l.row.view;
  steps : l.way.items ≡ counting_part (length l.view) ∷ map counting_part (take l.octet-index l.view);
}

-- the steps so far
abbrev pub invariant-loop-k : goal.invariant-loop-k
invariant-loop-k l = record {
  mask : l.mask ≡ l.row.mask;
  parts : l.part-items ≡ l.row.subtree;
  steps : l.way.items ≡ view_way l.row.view ++ subtree_way 0 l.row.mask (take l.k l.row.subtree);
}
