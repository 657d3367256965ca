use Rattle.std.proofs.Common.{sym, ◌∙◌, arith}
use Rattle.setphase_core.proofs.Faults.{none_left}
use Rattle.setphase_core.proofs.registry.fault_of.Goals as goal

pub returns : goal.returns
returns g c =
    sym (none_left g.O.MibObject.state c.args.objects.now c.loop-place.place (omega arith) (omega arith)) ∙ c.loop-place.invariant
