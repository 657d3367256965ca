use Rattle.std.proofs.Common.{◌≡◌, ◌≤◌, ◌-◌, ◌+◌, ◌*◌, ◌/◌, ◌^◌, ℕ, List, map, length, refl, sym, subst, arith}
use Rattle.setphase_core.specs.Registry.{rows_of, prefixes_of}
use Rattle.setphase_core.specs.Searching.{least_comparisons}
use Rattle.setphase_core.proofs.Ordered.{ordered_from}
use Rattle.setphase_core.proofs.Places.{prefixes_length}
use Rattle.setphase_core.proofs.Searches.{IsSearched, search_left, search_right, search_found, search_ends, owner_found, least_found, least_missing}
use Rattle.setphase_core.proofs.search.place_of.Goals as goal

pub loop-low-preserved-in-Less : goal.loop-low-preserved-in-Less
loop-low-preserved-in-Less g c =
    let names : List (List ℕ) = prefixes_of (rows_of (map g.O.MibObject.state c.args.objects.now)) in
    let middle : ℕ = c.loop-low.low + (c.loop-low.high - c.loop-low.low) / 2 in
    let i = c.loop-low.invariant in
    let turns : c.lookup.new.steps - c.args.steps.now ≡ c.loop-low.steps - c.args.steps.now + 1 = omega (arith, c.lookup.ensures.work, i.forward) in
    record {
      forward = omega (arith, c.lookup.ensures.work, i.forward);
      searched = subst (IsSearched names c.args.name.now (middle + 1) c.loop-low.high) (sym turns)
          (search_right names c.args.name.now c.loop-low.low c.loop-low.high middle _ (ordered_from _ c.requires) i.searched c.loop-low-test.true refl
          c.in-Less.ensures.side.0 c.in-Less.ensures.side.1);
    }

pub loop-low-preserved : goal.loop-low-preserved
loop-low-preserved g c =
    let names : List (List ℕ) = prefixes_of (rows_of (map g.O.MibObject.state c.args.objects.now)) in
    let middle : ℕ = c.loop-low.low + (c.loop-low.high - c.loop-low.low) / 2 in
    let i = c.loop-low.invariant in
    let turns : c.lookup.new.steps - c.args.steps.now ≡ c.loop-low.steps - c.args.steps.now + 1 = omega (arith, c.lookup.ensures.work, i.forward) in
    record {
      forward = omega (arith, c.lookup.ensures.work, i.forward);
      searched = subst (IsSearched names c.args.name.now c.loop-low.low middle) (sym turns)
          (search_left names c.args.name.now c.loop-low.low c.loop-low.high middle _ (ordered_from _ c.requires) i.searched c.loop-low-test.true refl c.in-Greater.ensures.side);
    }

pub returns-in-Equal-clause-place : goal.returns-in-Equal-clause-place
returns-in-Equal-clause-place g c =
    let names : List (List ℕ) = prefixes_of (rows_of (map g.O.MibObject.state c.args.objects.now)) in
    let middle : ℕ = c.loop-low.low + (c.loop-low.high - c.loop-low.low) / 2 in
    owner_found names c.args.name.now middle (ordered_from _ c.requires) (omega (arith, c.loop-low-test.true, c.loop-low.invariant.searched.within)) c.in-Equal.ensures.side

pub returns-in-Equal-clause-least : goal.returns-in-Equal-clause-least
returns-in-Equal-clause-least g c =
    let names : List (List ℕ) = prefixes_of (rows_of (map g.O.MibObject.state c.args.objects.now)) in
    let middle : ℕ = c.loop-low.low + (c.loop-low.high - c.loop-low.low) / 2 in
    let i = c.loop-low.invariant in
    let one : least_comparisons names c.args.name.now ≡ 1 = least_found names c.args.name.now middle (omega (arith, c.loop-low-test.true, i.searched.within)) c.in-Equal.ensures.side in
    omega (arith, one, c.lookup.ensures.work, i.forward)

pub returns-in-Equal-clause-work : goal.returns-in-Equal-clause-work
returns-in-Equal-clause-work g c =
    let names : List (List ℕ) = prefixes_of (rows_of (map g.O.MibObject.state c.args.objects.now)) in
    let i = c.loop-low.invariant in
    let count : length names ≡ length c.args.objects.now = prefixes_length g.O.MibObject.state c.args.objects.now in
    let turns : c.lookup.new.steps - c.args.steps.now ≡ c.loop-low.steps - c.args.steps.now + 1 = omega (arith, c.lookup.ensures.work, i.forward) in
    subst (λ (t : ℕ). 2 ^ t ≤ 2 * length c.args.objects.now + 1) (sym turns)
    (subst (λ (n : ℕ). 2 ^ (c.loop-low.steps - c.args.steps.now + 1) ≤ 2 * n + 1) count (search_found names c.args.name.now c.loop-low.low c.loop-low.high _ i.searched c.loop-low-test.true))

pub returns-clause-least : goal.returns-clause-least
returns-clause-least g c =
    let names : List (List ℕ) = prefixes_of (rows_of (map g.O.MibObject.state c.args.objects.now)) in
    let i = c.loop-low.invariant in
    let least : least_comparisons names c.args.name.now ≤ c.loop-low.steps - c.args.steps.now = least_missing names c.args.name.now c.loop-low.low c.loop-low.high _ (ordered_from _ c.requires) i.searched c.loop-low-test.false in
    omega (arith, least, i.forward)

pub returns-clause-place : goal.returns-clause-place
returns-clause-place g c =
    let names : List (List ℕ) = prefixes_of (rows_of (map g.O.MibObject.state c.args.objects.now)) in
    search_ends names c.args.name.now c.loop-low.low c.loop-low.high _ (ordered_from _ c.requires) c.loop-low.invariant.searched c.loop-low-test.false
