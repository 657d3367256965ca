use Rattle.agent_script.proofs.Lines.{under, of_events}
use Rattle.agent_script.proofs.agent.Agent.command.Goals as goal

pub returns-in-Some-Tick-clause-stated : goal.returns-in-Some-Tick-clause-stated
returns-in-Some-Tick-clause-stated g c =
    rw (c.in-Some-Tick.is, c.in-Some-Tick.field-0-is)
    (under c.ticks.result _ _ (λ stated whole p. of_events _ _ c.args.self.now stated _ whole p) c.ticks.ensures.stated)

pub returns-in-Some-Link-clause-stated : goal.returns-in-Some-Link-clause-stated
returns-in-Some-Link-clause-stated g c =
    rw (c.in-Some-Link.is, c.in-Some-Link.field-0-is)
    (under c.event.result _ _ (λ stated whole p. of_events _ _ c.args.self.now stated _ whole p) c.event.ensures.stated)

pub returns-in-Some-Request-clause-stated : goal.returns-in-Some-Request-clause-stated
returns-in-Some-Request-clause-stated g c =
    rw (c.in-Some-Request.is, c.in-Some-Request.field-0-is) (rw c.deref.ensures.value at c.datagram.ensures.stated)
