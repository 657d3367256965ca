use Rattle.std.proofs.Common.{◌∙◌, sym}
use Rattle.agent_script.proofs.Lines.{under, frame_says}
use Rattle.agent_script.proofs.agent.Agent.frame.Goals as goal

pub returns-in-Ok-clause-stated : goal.returns-in-Ok-clause-stated
returns-in-Ok-clause-stated g c =
    under c.event.result _ _ (λ stated whole p. frame_says c.args.port c.args.octets.now _ c.args.self.now stated _ whole (sym c.in-Ok.is ∙ c.read_frame.ensures.reading) p) c.event.ensures.stated
