use Rattle.std.proofs.lemmas.Result.{on_ok_weaker, on_err_weaker}
use Rattle.std.proofs.Common.{subst, true, false}
use Rattle.setphase_core.specs.Objects.{object_after_commit, object_after_failure, IsByPlan}
use Rattle.setphase_core.specs.Settings.{setting}
use Rattle.setphase_core.proofs.States.{row_after_commit, right-set, state_is, states-step}
use Rattle.setphase_core.proofs.registry.Registry.commit.Goals as goal

pub invariant_of-self : goal.invariant_of-self
invariant_of-self g c =
    right-set g.O.MibObject.state c.self.inside.objects.items c.args.self.now c.args.place c.index_mut.result.now c.commit.new.self c.self.view_is c.requires.within c.index_mut.ensures.value
    (row_after_commit c.commit.result _ _ c.args.slot (setting c.args.world.now c.args.slot.key) c.commit.ensures.kept c.commit.ensures.failed)
    c.self.invariant

pub returns-clause-kept : goal.returns-clause-kept
returns-clause-kept g c =
    on_ok_weaker c.commit.result (λ h. states-step g.O.MibObject.state c.self.inside.objects.items c.args.self.now c.args.place c.index_mut.result.now c.commit.new.self c.self.view_is c.requires.within c.index_mut.ensures.value (λ o. object_after_commit o c.args.slot (setting c.args.world.now c.args.slot.key)) h) c.commit.ensures.kept

pub returns-clause-failed : goal.returns-clause-failed
returns-clause-failed g c =
    on_err_weaker c.commit.result (λ h. states-step g.O.MibObject.state c.self.inside.objects.items c.args.self.now c.args.place c.index_mut.result.now c.commit.new.self c.self.view_is c.requires.within c.index_mut.ensures.value object_after_failure h) c.commit.ensures.failed

pub returns-clause-passes : goal.returns-clause-passes
returns-clause-passes g c =
    on_ok_weaker c.commit.result (λ h. subst (λ z. IsByPlan z false) (state_is g.O.MibObject.state c.self.inside.objects.items c.args.self.now c.args.place c.index_mut.result.now c.commit.new.self c.self.view_is c.requires.within c.index_mut.ensures.value) h) c.commit.ensures.passes

pub returns-clause-fails : goal.returns-clause-fails
returns-clause-fails g c =
    on_err_weaker c.commit.result (λ h. subst (λ z. IsByPlan z true) (state_is g.O.MibObject.state c.self.inside.objects.items c.args.self.now c.args.place c.index_mut.result.now c.commit.new.self c.self.view_is c.requires.within c.index_mut.ensures.value) h) c.commit.ensures.fails
