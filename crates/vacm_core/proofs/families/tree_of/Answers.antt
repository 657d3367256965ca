use Rattle.std.proofs.Common.{ℕ, ◌<◌, List, length, Contains, sym, subst, arith}
use Rattle.vacm_core.proofs.FamilyWays.{all_placed, packed_tree}
use Rattle.vacm_core.proofs.families.tree_of.Goals as goal

pub returns-clause-tree : goal.returns-clause-tree
returns-clause-tree c =
    let rows = c.args.rows.now in
    let numbers : List ℕ = c.as_slice.result.now in
    let tree = c.place_between.new.tree in
    let all = subst (λ (l : List ℕ). (n : ℕ) → n < length rows → Contains l n) (sym c.as_slice.ensures.value) c.in_ok-numbers.ensures.order.all in
    packed_tree tree rows c.packed.result c.packed.ensures
    (all_placed tree rows numbers all (λ k d from lt.
    c.in_ok-place_between.ensures.placed k d from (omega (arith, lt, c.len.ensures, c.in_ok-numbers.numbers.ok, c.as_slice.ensures.len))))
