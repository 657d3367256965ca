use Rattle.std.proofs.Common.{[], sym, subst}
use Rattle.std.specs.Option.{option_map}
use Rattle.live_agent.specs.Lines.{visits_behind}
use Rattle.live_agent.proofs.worker.visit_behind.Goals as goal

pub returns-in-None-clause-did : goal.returns-in-None-clause-did
returns-in-None-clause-did g c =
    subst (λ made. g.W.GatedWire.did c.args.wire.now (visits_behind c.args.worker c.args.peer c.args.request_id (option_map (λ entry. (entry.0.now, entry.1.now)) made)) c.args.wire.now) (sym c.in-None.is) (g.met.W.GatedWire.acts_are _ _ [] (g.met.W.Wire.starts _))
