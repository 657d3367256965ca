use Rattle.agent_script.proofs.Lines.{under, datagram_says}
use Rattle.agent_script.proofs.agent.Agent.datagram.Goals as goal

pub returns-in-Ok-clause-stated : goal.returns-in-Ok-clause-stated
returns-in-Ok-clause-stated g c =
    under c.event.result _ _ (λ stated whole p. datagram_says c.args.datagram.now _ c.args.self.now stated _ whole c.in-Ok.ensures.first_fault p) c.event.ensures.stated
