use Rattle.std.proofs.Common.{◌∙◌, Bool, List, ℕ, map, drop, refl, sym, ap, arith}
use Rattle.oid_core.specs.Order.{is_prefix}
use Rattle.setphase_core.specs.Objects.{ObjectRow}
use Rattle.setphase_core.specs.Registry.{rows_of}
use Rattle.setphase_core.proofs.Places.{prefix_there, prefixes_length, row_there, rows_count, split_there}
use Rattle.setphase_core.proofs.AtSpots.{own_answer}
use Rattle.setphase_core.proofs.Passed as passed
use Rattle.setphase_core.proofs.passing.own_spot.Goals as goal

pub is_passed-requires : goal.is_passed-requires
is_passed-requires g c = λ before.
    let passes : List ℕ → Bool = g.P.Passing.passes c.args.passing.now in
    let there = prefix_there g.O.MibObject.state c.args.objects.now c.args.place c.index-objects-place.result c.requires.within c.index-objects-place.is in
    let count = prefixes_length g.O.MibObject.state c.args.objects.now in
    sym (ap passes there) ∙ c.requires.until c.args.place (omega arith) before (omega (arith, count, c.requires.within))

pub index_below-requires : goal.index_below-requires
index_below-requires g c =
    let there = prefix_there g.O.MibObject.state c.args.objects.now c.args.place c.index-objects-place.result c.requires.within c.index-objects-place.is in
    ap (λ (p : List ℕ). is_prefix p c.args.name.now) (sym there) ∙ c.requires.begun

pub returns-then-is_passed : goal.returns-then-is_passed
returns-then-is_passed g c =
    let passes : List ℕ → Bool = g.P.Passing.passes c.args.passing.now in
    let rows : List ObjectRow = drop c.args.place (rows_of (map g.O.MibObject.state c.args.objects.now)) in
    let split = split_there g.O.MibObject.state c.args.objects.now c.args.place c.index-objects-place.result c.requires.within c.index-objects-place.is in
    passed.walk_passed passes rows rows (g.O.MibObject.state c.index-objects-place.result).row _ c.args.world.now c.args.name.now split c.args.steps.now c.args.steps.now c.tick.new.self (passed.walk_start passes rows c.args.world.now c.args.name.now c.args.steps.now)
    (sym c.is_passed.ensures ∙ c.if-is_passed.true) c.tick.ensures

pub returns : goal.returns
returns g c =
    let passes : List ℕ → Bool = g.P.Passing.passes c.args.passing.now in
    let rows : List ObjectRow = rows_of (map g.O.MibObject.state c.args.objects.now) in
    let row : ObjectRow = (g.O.MibObject.state c.index-objects-place.result).row in
    let split = split_there g.O.MibObject.state c.args.objects.now c.args.place c.index-objects-place.result c.requires.within c.index-objects-place.is in
    own_answer passes rows row c.args.world.now c.args.name.now c.args.place c.args.steps.now (record { place = c.args.place; index = c.index_below.new.into }) c.index_below.result
    split (sym c.is_passed.ensures ∙ c.if-is_passed.false) (omega (arith, c.requires.within, rows_count g.O.MibObject.state c.args.objects.now))
    (row_there g.O.MibObject.state c.args.objects.now c.args.place c.index-objects-place.result row c.requires.within c.index-objects-place.is) refl c.index_below.ensures.fits c.index_below.ensures.found
