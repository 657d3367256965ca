use Rattle.std.proofs.Common.{◌-◌}
use Rattle.bridge_core.proofs.Changes.{after_receive, received_at}
use Rattle.bridge_core.proofs.bridge.Bridge.receive.Goals as goal

pub returns-clause-step : goal.returns-clause-step
returns-clause-step c = rw (← c.self.view_is) (after_receive _ _ _ _ _ _ _ c.args.port (received_at c.self.inside.counters.items _ (c.args.port - 1) _ c.deref_mut.ensures.value c.receive.ensures))
