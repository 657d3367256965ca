use Rattle.std.proofs.Common.{sym, ap, ◌∙◌}
use Rattle.oid_core.specs.Order.{is_prefix}
use Rattle.setphase_core.proofs.Places.{prefix_there}
use Rattle.setphase_core.proofs.search.is_begun.Goals as goal

pub returns : goal.returns
returns g c =
    let there = prefix_there g.O.MibObject.state c.args.objects.now c.args.place c.index-objects-place.result c.requires c.index-objects-place.is in
    c.begins.ensures.test ∙ ap (is_prefix c.args.front.now) (c.prefix.ensures ∙ sym there)
