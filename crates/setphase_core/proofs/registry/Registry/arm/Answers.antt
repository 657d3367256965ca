use Rattle.std.proofs.Common.{arith, ◌∙◌, ap, sym, map}
use Rattle.std.proofs.lemmas.List.{length-set, with_items_is}
use Rattle.setphase_core.specs.Objects.{object_after_arm}
use Rattle.setphase_core.specs.Registry.{rows_of}
use Rattle.setphase_core.proofs.Released.{step_more, step_end, right_by_rows, rows_of-armed}
use Rattle.setphase_core.proofs.registry.Registry.arm.Goals as goal

pub loop-object-preserved : goal.loop-object-preserved
loop-object-preserved g c = record {
  states = step_more g.O.MibObject.state (object_after_arm c.args.plan) c.loop-object.object-items c.args.self.now c.loop-object.object-index c.object-item.result c.arm.new.self (omega arith) c.loop-object.invariant.len c.loop-object.invariant.states c.object-item.is c.arm.ensures;
  len = length-set _ _ _ ∙ c.loop-object.invariant.len;
}

pub invariant_of-self : goal.invariant_of-self
invariant_of-self g c =
    right_by_rows (map g.O.MibObject.state c.self.inside.objects.items) _
    (ap (λ zs. rows_of (map g.O.MibObject.state zs)) (with_items_is c.self.inside.objects c.loop-object.object-items (omega arith))
    ∙ ap rows_of (step_end g.O.MibObject.state (object_after_arm c.args.plan) c.loop-object.object-items c.args.self.now c.loop-object.object-index (omega arith) c.loop-object.invariant.states)
    ∙ rows_of-armed c.args.plan c.args.self.now
    ∙ ap rows_of (sym c.self.view_is))
    c.self.invariant
