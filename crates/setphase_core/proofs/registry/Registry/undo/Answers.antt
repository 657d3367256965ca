use Rattle.std.proofs.lemmas.Result.{on_ok_weaker, on_err_weaker}
use Rattle.std.proofs.Common.{subst, sym, true, false}
use Rattle.setphase_core.specs.Objects.{after_call, object_after_failure, HasSpaceBack, IsByPlan}
use Rattle.setphase_core.proofs.States.{row_after_undo, right-set, state_is, states-step}
use Rattle.setphase_core.proofs.registry.Registry.undo.Goals as goal

pub invariant_of-self : goal.invariant_of-self
invariant_of-self g c =
    right-set g.O.MibObject.state c.self.inside.objects.items c.args.self.now c.args.place c.index_mut.result.now c.undo.new.self c.self.view_is c.requires.within c.index_mut.ensures.value
    (row_after_undo c.undo.result _ _ c.undo.ensures.kept c.undo.ensures.failed)
    c.self.invariant

pub returns-clause-kept : goal.returns-clause-kept
returns-clause-kept g c =
    on_ok_weaker c.undo.result (λ h. states-step g.O.MibObject.state c.self.inside.objects.items c.args.self.now c.args.place c.index_mut.result.now c.undo.new.self c.self.view_is c.requires.within c.index_mut.ensures.value after_call h) c.undo.ensures.kept

pub returns-clause-failed : goal.returns-clause-failed
returns-clause-failed g c =
    on_err_weaker c.undo.result (λ h. states-step g.O.MibObject.state c.self.inside.objects.items c.args.self.now c.args.place c.index_mut.result.now c.undo.new.self c.self.view_is c.requires.within c.index_mut.ensures.value object_after_failure h) c.undo.ensures.failed

pub returns-clause-passes : goal.returns-clause-passes
returns-clause-passes g c =
    on_ok_weaker c.undo.result (λ h. subst (λ z. IsByPlan z false) (state_is g.O.MibObject.state c.self.inside.objects.items c.args.self.now c.args.place c.index_mut.result.now c.undo.new.self c.self.view_is c.requires.within c.index_mut.ensures.value) h) c.undo.ensures.passes

pub returns-clause-fails : goal.returns-clause-fails
returns-clause-fails g c =
    on_err_weaker c.undo.result (λ h. subst (λ z. IsByPlan z true) (state_is g.O.MibObject.state c.self.inside.objects.items c.args.self.now c.args.place c.index_mut.result.now c.undo.new.self c.self.view_is c.requires.within c.index_mut.ensures.value) h) c.undo.ensures.fails

pub undo-requires-clause-space : goal.undo-requires-clause-space
undo-requires-clause-space g c =
    subst (λ z. HasSpaceBack c.args.world.now z c.args.slot) (sym (state_is g.O.MibObject.state c.self.inside.objects.items c.args.self.now c.args.place c.index_mut.result.now c.index_mut.result.now c.self.view_is c.requires.within c.index_mut.ensures.value)) c.requires.space
