use Rattle.std.proofs.Common.{◌-◌, ℕ, Bool, length, set, ap, ◌∙◌}
use Rattle.bridge_core.proofs.Changes.{state, after_forward, written}
use Rattle.bridge_core.specs.Counting.{sent_where}
use Rattle.bridge_core.specs.Forwarding.{ports_where, egress_of}
use Rattle.bridge_core.specs.ForwardingInside.{leads, goes_by}
use Rattle.bridge_core.proofs.Ways.{same_way}
use Rattle.bridge_core.proofs.bridge.Bridge.forward.Goals as goal

pub returns-clause-step : goal.returns-clause-step
returns-clause-step c =
    rw (← c.self.view_is) (after_forward _ c.self.inside.tree _ _ _ _ c.send_out-egress.new.counters _ c.args.port c.args.destination (goes_by (leads c.find_way-way.result) c.args.port c.self.inside.tree) c.send_out-egress.result.items c.is_empty.result (same_way (state c.self.inside.settings c.self.inside.tree c.self.inside.fdb.rows c.self.inside.statics c.self.inside.entry_discards c.self.inside.counters.items) c.args.port _ c.address.result c.state-state.result c.args.destination c.find_way-way.ensures c.address.ensures c.state-state.ensures) c.send_out-egress.ensures.egress c.is_empty.ensures (c.send_out-egress.ensures.counters ∙ ap (sent_where (goes_by (leads c.find_way-way.result) c.args.port c.self.inside.tree)) c.as_mut_slice-counters.ensures.value) (written c.self.inside.counters.items c.send_out-egress.new.counters (c.args.port - 1) _ (c.send_out-egress.auto.counters ∙ ap length c.as_mut_slice-counters.ensures.value) ∙ ap (set c.send_out-egress.new.counters (c.args.port - 1)) c.discard.ensures))

pub returns-clause-egress : goal.returns-clause-egress
unfolding egress_of
returns-clause-egress c = rw (← c.self.view_is) (c.send_out-egress.ensures.egress ∙ ap (λ (w : ℕ → Bool). ports_where w (length c.self.inside.tree.ports)) (same_way (state c.self.inside.settings c.self.inside.tree c.self.inside.fdb.rows c.self.inside.statics c.self.inside.entry_discards c.self.inside.counters.items) c.args.port _ c.address.result c.state-state.result c.args.destination c.find_way-way.ensures c.address.ensures c.state-state.ensures))
