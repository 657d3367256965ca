use Rattle.std.proofs.Common.{◌∙◌, Bool, cond, List, ◌++◌, ℕ, map, drop, Some, None, sym, ap, arith}
use Rattle.oid_core.specs.Order.{name_lt, is_prefix}
use Rattle.setphase_core.specs.Objects.{ObjectRow}
use Rattle.setphase_core.specs.Registry.{rows_of}
use Rattle.setphase_core.proofs.Places.{prefix_there, prefixes_length, row_there, rows_count, split_there, split_end}
use Rattle.setphase_core.proofs.Next.{named_none}
use Rattle.setphase_core.proofs.Passed as passed
use Rattle.setphase_core.proofs.passing.spot_behind.Goals as goal
use Rattle.setphase_core.proofs.passing.spot_behind.Goals.{then-is_passed, else-is_passed+else-index_ahead}

pub is_passed-requires : goal.is_passed-requires
is_passed-requires g c = λ before.
    let passes : List ℕ → Bool = g.P.Passing.passes c.args.passing.now in
    let there = prefix_there g.O.MibObject.state c.args.objects.now c.loop-place.place c.index-objects-place.result c.loop-place-test.true c.index-objects-place.is in
    let count = prefixes_length g.O.MibObject.state c.args.objects.now in
    sym (ap passes there) ∙ c.requires.until c.loop-place.place c.loop-place.auto.place before (omega (arith, count, c.loop-place-test.true))

pub index_ahead-requires-clause-apart : goal.index_ahead-requires-clause-apart
index_ahead-requires-clause-apart g c =
    let there = prefix_there g.O.MibObject.state c.args.objects.now c.loop-place.place c.index-objects-place.result c.loop-place-test.true c.index-objects-place.is in
    let count = prefixes_length g.O.MibObject.state c.args.objects.now in
    ap (λ (p : List ℕ). is_prefix p c.args.name.now) (sym there) ∙ (c.requires.ahead c.loop-place.place c.loop-place.auto.place (omega (arith, count, c.loop-place-test.true))).0

pub index_ahead-requires-clause-ahead : goal.index_ahead-requires-clause-ahead
index_ahead-requires-clause-ahead g c =
    let there = prefix_there g.O.MibObject.state c.args.objects.now c.loop-place.place c.index-objects-place.result c.loop-place-test.true c.index-objects-place.is in
    let count = prefixes_length g.O.MibObject.state c.args.objects.now in
    ap (name_lt c.args.name.now) (sym there) ∙ (c.requires.ahead c.loop-place.place c.loop-place.auto.place (omega (arith, count, c.loop-place-test.true))).1

pub returns-then-index_ahead-clause-found : goal.returns-then-index_ahead-clause-found
returns-then-index_ahead-clause-found g c =
    let passes : List ℕ → Bool = g.P.Passing.passes c.args.passing.now in
    let rows : List ObjectRow = drop c.args.start (rows_of (map g.O.MibObject.state c.args.objects.now)) in
    let row : ObjectRow = (g.O.MibObject.state c.index-objects-place.result).row in
    let split = split_there g.O.MibObject.state c.args.objects.now c.loop-place.place c.index-objects-place.result c.loop-place-test.true c.index-objects-place.is in
    let index = ap (λ b. cond b (Some (row.prefix ++ c.index_ahead.new.into.items)) None) (sym c.if-index_ahead.true) ∙ c.index_ahead.ensures.found in
    record {
      row = row;
      after = c.loop-place.auto.place;
      within = omega (arith, c.loop-place-test.true, rows_count g.O.MibObject.state c.args.objects.now);
      at = row_there g.O.MibObject.state c.args.objects.now c.loop-place.place c.index-objects-place.result row c.loop-place-test.true c.index-objects-place.is;
      kept = sym c.is_passed.ensures ∙ c.if-is_passed.false;
      index = index;
      fits = c.index_ahead.ensures.fits c.if-index_ahead.true;
      first = passed.walk_found passes rows _ row _ c.args.world.now c.args.name.now split c.args.steps.now c.loop-place.steps c.loop-place.invariant c.index_ahead.new.into.items (sym c.is_passed.ensures ∙ c.if-is_passed.false) index;
    }

pub returns-then-index_ahead-clause-work : goal.returns-then-index_ahead-clause-work
returns-then-index_ahead-clause-work g c =
    let passes : List ℕ → Bool = g.P.Passing.passes c.args.passing.now in
    let rows : List ObjectRow = drop c.args.start (rows_of (map g.O.MibObject.state c.args.objects.now)) in
    let row : ObjectRow = (g.O.MibObject.state c.index-objects-place.result).row in
    let split = split_there g.O.MibObject.state c.args.objects.now c.loop-place.place c.index-objects-place.result c.loop-place-test.true c.index-objects-place.is in
    let index = ap (λ b. cond b (Some (row.prefix ++ c.index_ahead.new.into.items)) None) (sym c.if-index_ahead.true) ∙ c.index_ahead.ensures.found in
    passed.walk_work passes rows _ row _ c.args.world.now c.args.name.now split c.args.steps.now c.loop-place.steps c.loop-place.invariant c.index_ahead.new.into.items (sym c.is_passed.ensures ∙ c.if-is_passed.false) index

pub loop-place-preserved : goal.loop-place-preserved
loop-place-preserved g c =
    let passes : List ℕ → Bool = g.P.Passing.passes c.args.passing.now in
    let rows : List ObjectRow = drop c.args.start (rows_of (map g.O.MibObject.state c.args.objects.now)) in
    let row : ObjectRow = (g.O.MibObject.state c.index-objects-place.result).row in
    let split = split_there g.O.MibObject.state c.args.objects.now c.loop-place.place c.index-objects-place.result c.loop-place-test.true c.index-objects-place.is in
    elim c.if-is_passed.branch [
      | then-is_passed w ↦
          passed.walk_passed passes rows _ row _ c.args.world.now c.args.name.now split c.args.steps.now c.loop-place.steps c.if-is_passed.steps c.loop-place.invariant
          (sym c.is_passed.ensures ∙ w.if-is_passed.true) (omega (arith, w.steps-is, w.tick.ensures))
      | else-is_passed+else-index_ahead w ↦
          passed.walk_later passes rows _ row _ c.args.world.now c.args.name.now split c.args.steps.now c.loop-place.steps c.if-is_passed.steps c.loop-place.invariant
          (sym c.is_passed.ensures ∙ w.if-is_passed.false)
          (named_none row c.args.world.now c.args.name.now (ap (λ b. cond b (Some (row.prefix ++ w.index_ahead.new.into.items)) None) (sym w.if-index_ahead.false) ∙ w.index_ahead.ensures.found)) (omega (arith, w.steps-is))
    ]

pub returns-clause-found : goal.returns-clause-found
returns-clause-found g c =
    let passes : List ℕ → Bool = g.P.Passing.passes c.args.passing.now in
    let none = split_end g.O.MibObject.state c.args.objects.now c.loop-place.place (omega (arith, c.loop-place-test.false)) in
    sym c.loop-place.invariant.found ∙ passed.found_none passes _ c.args.world.now c.args.name.now none

pub returns-clause-work : goal.returns-clause-work
returns-clause-work g c = λ ordered.
    let passes : List ℕ → Bool = g.P.Passing.passes c.args.passing.now in
    let none = split_end g.O.MibObject.state c.args.objects.now c.loop-place.place (omega (arith, c.loop-place-test.false)) in
    c.loop-place.invariant.work c.loop-place.steps (λ o. passed.walked_end passes _ c.args.world.now c.args.name.now c.loop-place.steps none) ordered
