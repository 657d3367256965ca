use Rattle.std.proofs.Common.{sym, ◌∙◌}
use Rattle.setphase_core.proofs.Places.{prefix_there}
use Rattle.setphase_core.proofs.spots.prefix_there.Goals as goal

pub returns : goal.returns
returns g c =
    c.prefix.ensures ∙ sym (prefix_there g.O.MibObject.state c.args.objects.now c.args.place c.index-objects-place.result c.requires c.index-objects-place.is)
