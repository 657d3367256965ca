use Rattle.std.proofs.Common.{sym, ap, ◌∙◌}
use Rattle.oid_core.specs.Order.{name_lt, is_prefix}
use Rattle.setphase_core.proofs.Places.{prefix_there}
use Rattle.setphase_core.proofs.search.lookup.Goals as goal

pub returns-then-precedes-clause-side : goal.returns-then-precedes-clause-side
returns-then-precedes-clause-side g c =
    let there = prefix_there g.O.MibObject.state c.args.objects.now c.args.place c.index-objects-place.result c.requires c.index-objects-place.is in
    ap (name_lt c.args.name.now) (there ∙ sym c.prefix-prefix.ensures) ∙ sym c.precedes.ensures.test ∙ c.if-precedes.true

pub returns-then-begins-clause-side : goal.returns-then-begins-clause-side
returns-then-begins-clause-side g c =
    let there = prefix_there g.O.MibObject.state c.args.objects.now c.args.place c.index-objects-place.result c.requires c.index-objects-place.is in
    ap (λ p. is_prefix p c.args.name.now) (there ∙ sym c.prefix-prefix.ensures) ∙ sym c.begins.ensures.test ∙ c.if-begins.true

pub returns-else-begins-clause-side : goal.returns-else-begins-clause-side
returns-else-begins-clause-side g c =
    let there = prefix_there g.O.MibObject.state c.args.objects.now c.args.place c.index-objects-place.result c.requires c.index-objects-place.is in (
      ap (name_lt c.args.name.now) (there ∙ sym c.prefix-prefix.ensures) ∙ sym c.precedes.ensures.test ∙ c.if-precedes.false,
      ap (λ p. is_prefix p c.args.name.now) (there ∙ sym c.prefix-prefix.ensures) ∙ sym c.begins.ensures.test ∙ c.if-begins.false,
    )
