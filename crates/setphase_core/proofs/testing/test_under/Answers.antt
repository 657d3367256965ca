use Rattle.std.proofs.Common.{◌≡◌, ◌≤◌, true, ap, length, List, ℕ, arith, length-append}
use Rattle.oid_core.specs.Order.{is_prefix}
use Rattle.oid_core.proofs.OrderLaws.{prefix_found}
use Rattle.setphase_core.proofs.testing.test_under.Goals as goal

-- the object's name is no longer than the name
fits : (p n : List ℕ) → is_prefix p n ≡ true → length p ≤ length n
fits p n h =
    let begun = prefix_found p n h in
    omega (arith, ap (λ (xs : List ℕ). length xs) begun.parts, length-append p begun.rest)

pub slice_bounds-test-count : goal.slice_bounds-test-count
slice_bounds-test-count g c =
    omega (
      arith,
      ap (λ (xs : List ℕ). length xs) c.prefix-length.ensures,
      ap (λ (xs : List ℕ). length xs) c.as_slice.ensures.value,
      fits (g.O.MibObject.state c.args.object.now).row.prefix c.args.binding.now.name c.requires,
    )

pub slice_bounds-test-start : goal.slice_bounds-test-start
slice_bounds-test-start g c =
    omega (
      arith,
      ap (λ (xs : List ℕ). length xs) c.prefix-length.ensures,
      ap (λ (xs : List ℕ). length xs) c.as_slice.ensures.value,
      fits (g.O.MibObject.state c.args.object.now).row.prefix c.args.binding.now.name c.requires,
    )
