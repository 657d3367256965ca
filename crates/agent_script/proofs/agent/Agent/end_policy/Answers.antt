use Rattle.std.proofs.Common.{◌∙◌, sym}
use Rattle.agent_script.proofs.Lines.{under, accepted_says}
use Rattle.agent_script.proofs.agent.Agent.end_policy.Goals as goal

pub returns-in-Ok-Some-clause-stated : goal.returns-in-Ok-Some-clause-stated
returns-in-Ok-Some-clause-stated g c =
    under c.event.result _ _ (λ stated whole p. accepted_says c.args.lines.now _ c.args.self.now stated _ whole c.requires (sym c.in-Ok-Some.field-0-is ∙ c.in-Ok-Some.ensures.policy) p) c.event.ensures.stated
