use Rattle.std.proofs.lemmas.Result.{IfOk-weaker, on_err_weaker}
use Rattle.setphase_core.specs.Objects.{reserve}
use Rattle.setphase_core.proofs.States.{row_after_test, right-set, states-same, states-step}
use Rattle.setphase_core.proofs.registry.Registry.test.Goals as goal

pub invariant_of-self : goal.invariant_of-self
invariant_of-self g c =
    right-set g.O.MibObject.state c.self.inside.objects.items c.args.self.now c.args.place c.index_mut.result.now c.test_under.new.object c.self.view_is c.requires.within c.index_mut.ensures.value
    (row_after_test c.test_under.result _ _ c.test_under.ensures.reserved c.test_under.ensures.refused)
    c.self.invariant

pub returns-clause-reserved : goal.returns-clause-reserved
returns-clause-reserved g c =
    IfOk-weaker c.test_under.result _ _ (λ slot h. states-step g.O.MibObject.state c.self.inside.objects.items c.args.self.now c.args.place c.index_mut.result.now c.test_under.new.object c.self.view_is c.requires.within c.index_mut.ensures.value (λ o. reserve o slot) h) c.test_under.ensures.reserved

pub returns-clause-refused : goal.returns-clause-refused
returns-clause-refused g c =
    on_err_weaker c.test_under.result (λ h. states-same g.O.MibObject.state c.self.inside.objects.items c.args.self.now c.args.place c.index_mut.result.now c.test_under.new.object c.self.view_is c.requires.within c.index_mut.ensures.value h) c.test_under.ensures.refused
