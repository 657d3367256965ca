use Rattle.std.proofs.Common.{ap, ◌∙◌, refl}
use Rattle.fdb_core.specs.Table.{Table}
use Rattle.rstp_core.proofs.Functions.{link_steps}
use Rattle.bridge_core.specs.Events.{link_of, after_link}
use Rattle.bridge_core.proofs.Changes.{after_step, step_bpdus, counted}
use Rattle.bridge_core.proofs.bridge.Bridge.link.Goals as goal

pub returns-clause-step : goal.returns-clause-step
unfolding link_of after_link
returns-clause-step c = rw (← c.self.view_is) (after_step _ _ _ _ _ _ _ _ _ _ c.link-outcome.result _ (link_steps _ _ _ _ _ _ c.link-outcome.ensures.event) refl (ap (λ (t : Table). t.rows) c.follow.ensures.fdb) (counted c.self.inside.counters.items _ _ _ c.follow.auto.counters c.as_mut_slice.ensures.value c.follow.ensures.counters))

pub returns-clause-bpdus : goal.returns-clause-bpdus
unfolding link_of
returns-clause-bpdus c = rw (← c.self.view_is) (c.follow.ensures.bpdus ∙ step_bpdus _ _ _ c.link-outcome.result (link_steps _ _ _ _ _ _ c.link-outcome.ensures.event))
