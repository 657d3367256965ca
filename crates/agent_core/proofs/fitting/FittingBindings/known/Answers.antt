use Rattle.std.proofs.Common.{◌≡◌, ◌<◌, ap, length, subst, List}
use Rattle.message_core.specs.declared.binding.Binding.{Binding}
use Rattle.agent_core.specs.Fitting.{most_successors}
use Rattle.agent_core.proofs.FewFit.{few_sent}
use Rattle.agent_core.proofs.fitting.FittingBindings.known.Goals as goal

pub returns : goal.returns
returns c =
    let kept = c.self.inside in
    subst (λ (bs : List Binding). length bs < most_successors) (ap (λ s. s.bindings) c.self.view_is) (few_sent kept.bindings kept.space c.self.invariant.0.within c.self.invariant.0.most)
