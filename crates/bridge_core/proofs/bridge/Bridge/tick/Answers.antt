use Rattle.std.proofs.Common.{ℕ, map, ap, ◌∙◌, refl}
use Rattle.fdb_core.specs.Table.{Table}
use Rattle.fdb_core.specs.Rows.{older_row, young_rows, other_rows}
use Rattle.rstp_core.proofs.Functions.{tick_steps}
use Rattle.bridge_core.specs.Events.{tick_of, after_tick}
use Rattle.bridge_core.proofs.Changes.{after_step, step_bpdus, counted}
use Rattle.bridge_core.proofs.bridge.Bridge.tick.Goals as goal

pub returns-clause-step : goal.returns-clause-step
unfolding tick_of after_tick
returns-clause-step c = rw (← c.self.view_is) (after_step _ _ _ _ _ _ _ _ _ _ c.tick-outcome.result _ (tick_steps _ _ _ _ c.tick-outcome.ensures.event) refl (ap (λ (t : Table). t.rows) c.follow.ensures.fdb ∙ (ap (λ (t : Table). other_rows c.tick-outcome.result.flushed.items t.rows) c.age.ensures ∙ ap (λ (n : ℕ). other_rows c.tick-outcome.result.flushed.items (young_rows n (map older_row c.self.inside.fdb.rows))) c.get.ensures.value)) (counted c.self.inside.counters.items _ _ _ c.follow.auto.counters c.as_mut_slice.ensures.value c.follow.ensures.counters))

pub returns-clause-bpdus : goal.returns-clause-bpdus
unfolding tick_of
returns-clause-bpdus c = rw (← c.self.view_is) (c.follow.ensures.bpdus ∙ step_bpdus _ _ _ c.tick-outcome.result (tick_steps _ _ _ _ c.tick-outcome.ensures.event))
