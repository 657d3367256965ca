use Rattle.std.proofs.Common.{ℕ, length, arith, rules, sym, subst, ap, ◌∙◌}
use Rattle.std.proofs.lemmas.List.{length-map}
use Rattle.fdb_core.specs.Statics.{Statics}
use Rattle.rstp_settings.proofs.Puts.{refill_same}
use Rattle.rstp_settings.specs.Table.{Table as Settings, without_migration_check}
use Rattle.bridge_core.specs.Statics.{AreStaticRows}
use Rattle.bridge_core.proofs.StaticKept.{kept_rows}
use Rattle.fdb_core.specs.Table.{Table}
use Rattle.rstp_core.proofs.Functions.{settling_steps}
use Rattle.bridge_core.specs.Events.{settling_of, after_settling}
use Rattle.bridge_core.proofs.Changes.{after_step, step_bpdus, counted}
use Rattle.bridge_core.proofs.bridge.Bridge.settle.Goals as goal

pub invariant_of-self : goal.invariant_of-self
invariant_of-self c =
    let h = c.self.invariant in
    let same = length-map c.self.inside.settings.ports without_migration_check in
    let kept = ap (λ (t : Settings). length t.ports) c.settle-outcome.ensures.settings ∙ same in
    let rows = kept_rows (length c.self.inside.settings.ports) c.self.inside.statics.rows h.reporting in
    let same_length = c.follow.auto.counters ∙ ap length c.as_mut_slice.ensures.value in
    record {
      configured = search rules;
      set = omega (arith, kept, c.settle-outcome.ensures.ports);
      counted = ap length (refill_same c.self.inside.counters.items c.follow.new.counters same_length) ∙ (same_length ∙ (h.counted ∙ sym c.settle-outcome.ensures.ports));
      least = search rules;
      most = search rules;
      limit = search rules;
      reporting = subst (λ (k : ℕ). AreStaticRows k c.drop_unmade.new.statics.rows) (sym kept) (subst (AreStaticRows (length c.self.inside.settings.ports)) (sym (ap (λ (t : Statics). t.rows) c.drop_unmade.ensures)) rows);
    }

pub returns-clause-step : goal.returns-clause-step
unfolding settling_of after_settling
returns-clause-step c = rw (← c.self.view_is) (rw (← c.drop_unmade.ensures) (after_step _ _ _ _ _ _ _ _ _ _ c.settle-outcome.result _ (settling_steps _ _ _ _ c.settle-outcome.ensures.event) c.settle-outcome.ensures.settings (ap (λ (t : Table). t.rows) c.follow.ensures.fdb) (counted c.self.inside.counters.items _ _ _ c.follow.auto.counters c.as_mut_slice.ensures.value c.follow.ensures.counters)))

pub returns-clause-bpdus : goal.returns-clause-bpdus
unfolding settling_of
returns-clause-bpdus c = rw (← c.self.view_is) (c.follow.ensures.bpdus ∙ step_bpdus _ _ _ c.settle-outcome.result (settling_steps _ _ _ _ c.settle-outcome.ensures.event))
