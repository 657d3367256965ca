-- The outcomes of events that are no requests are their steps.
use Rattle.std.proofs.Common.{◌≡◌, ◌∙◌, ℕ, Bool, true, false, List, [], Option, None, ap, refl, sym, subst}
use Rattle.std.specs.Prelude.{unwrap_or}
use Rattle.frame_core.specs.declared.frame.FrameIn.{FrameIn}
use Rattle.bridge_core.specs.Bridge.{BridgeState}
use Rattle.bridge_core.specs.Events.{frame_result, tick_of, after_tick, link_of, after_link}
use Rattle.bridge_core.specs.Forwarding.{MayLackMemory}
use Rattle.community_core.specs.Communities.{PolicyTables}
use Rattle.setphase_core.specs.declared.world.World.{World}
use Rattle.setphase_core.specs.Objects.{ObjectState}
use Rattle.setphase_core.specs.Calls.{Call, FollowPlans}
use Rattle.setphase_core.proofs.Called.{no_plans}
use Rattle.setphase_core.specs.Registry.{rows_of}
use Rattle.agent_core.specs.Buffered.{Buffered}
use Rattle.history_core.specs.Steps.{step_of, event_calls, has_port, MayNote}
use Rattle.history_core.specs.Happening.{quiet, notes_in, Happens}
use Rattle.history_core.specs.declared.event.Event.{Event}
use Rattle.history_core.specs.declared.event.Event.TheVariants as event
use Rattle.history_core.specs.declared.happening.EventOutcome.{EventOutcome}

-- An event without reply and audit, whose step has none, is that step.
silent : (os : List ObjectState) (w later : World) (e : Event) (h : EventOutcome) (b : Buffered)
    → h.reply ≡ None → h.reported_reply ≡ None → h.audit ≡ None → h.reported_audit ≡ None → MayNote (rows_of os) w e (notes_in h)
    → later ≡ (step_of os w e (notes_in h)).world → os ≡ (step_of os w e (notes_in h)).objects
    → h.egress ≡ (step_of os w e (notes_in h)).egress → (step_of os w e (notes_in h)).reply ≡ None
    → (step_of os w e (notes_in h)).audit ≡ None → b.bpdus ≡ (step_of os w e (notes_in h)).bpdus
    → b.reply ≡ [] → event_calls (rows_of os) w e (notes_in h) ≡ [] → Happens os w e h os later b
silent os w later e h b own_reply reported_reply own_audit reported_audit may world objects egress reply audit bpdus none uncalled = record {
  may = may;
  by_plan = subst (λ (calls : List Call). FollowPlans calls os) (sym uncalled) (no_plans os);
  world = world;
  objects_after = objects;
  egress = egress;
  reply = own_reply ∙ sym reply;
  same_reply = reported_reply ∙ sym reply;
  sent = none ∙ ap (λ (x : Option (List ℕ)). unwrap_or x []) (sym reply);
  audit = own_audit ∙ sym audit;
  same_audit = reported_audit ∙ sym audit;
  bpdus = bpdus;
}

pub tick_happens : (os : List ObjectState) (w : World) (bridge : BridgeState) (b : Buffered) (h : EventOutcome)
    → h ≡ quiet → bridge ≡ after_tick w.bridge → b.bpdus ≡ (tick_of w.bridge).bpdus → b.reply ≡ []
    → Happens os w event.Tick h os (record w { bridge = bridge }) b
unfolding step_of
tick_happens os w bridge b h is after bpdus none =
    subst (λ (x : EventOutcome). Happens os w event.Tick x os (record w { bridge = bridge }) b) (sym is)
    (silent os w (record w { bridge = bridge }) event.Tick quiet b refl refl refl refl refl
    (ap (λ (x : BridgeState). record w { bridge = x }) after) refl refl refl refl bpdus none refl)

pub policy_happens : (os : List ObjectState) (w : World) (tables : PolicyTables) (b : Buffered) (h : EventOutcome)
    → h ≡ quiet → b.bpdus ≡ [] → b.reply ≡ []
    → Happens os w (event.Policy tables) h os (record w { policy = tables }) b
unfolding step_of
policy_happens os w tables b h is bpdus none =
    subst (λ (x : EventOutcome). Happens os w (event.Policy tables) x os (record w { policy = tables }) b) (sym is)
    (silent os w (record w { policy = tables }) (event.Policy tables) quiet b refl refl refl refl refl refl refl refl refl refl bpdus none refl)

pub link_happens : (os : List ObjectState) (w : World) (port : ℕ) (up : Bool) (bridge : BridgeState) (b : Buffered) (h : EventOutcome)
    → h ≡ quiet → has_port w.bridge port ≡ true → bridge ≡ after_link port up w.bridge
    → b.bpdus ≡ (link_of port up w.bridge).bpdus → b.reply ≡ []
    → Happens os w (event.Link port up) h os (record w { bridge = bridge }) b
unfolding step_of
link_happens os w port up bridge b h is there after bpdus none =
    subst (λ (x : EventOutcome). Happens os w (event.Link port up) x os (record w { bridge = bridge }) b) (sym is)
    (silent os w (record w { bridge = bridge }) (event.Link port up) quiet b refl refl refl refl refl
    (rw there (ap (λ (x : BridgeState). record w { bridge = x }) after)) (rw there refl) (rw there refl) (rw there refl) (rw there refl) (rw there bpdus) none refl)

pub no_link_happens : (os : List ObjectState) (w : World) (port : ℕ) (up : Bool) (b : Buffered) (h : EventOutcome)
    → h ≡ quiet → has_port w.bridge port ≡ false → b.bpdus ≡ [] → b.reply ≡ []
    → Happens os w (event.Link port up) h os w b
unfolding step_of
no_link_happens os w port up b h is there bpdus none =
    subst (λ (x : EventOutcome). Happens os w (event.Link port up) x os w b) (sym is)
    (silent os w w (event.Link port up) quiet b refl refl refl refl refl
    (rw there refl) (rw there refl) (rw there refl) (rw there refl) (rw there refl) (rw there bpdus) none refl)

pub no_frame_happens : (os : List ObjectState) (w : World) (port : ℕ) (f : FrameIn) (b : Buffered) (h : EventOutcome)
    → h ≡ quiet → has_port w.bridge port ≡ false → b.bpdus ≡ [] → b.reply ≡ []
    → Happens os w (event.Frame port f) h os w b
unfolding step_of
no_frame_happens os w port f b h is there bpdus none =
    subst (λ (x : EventOutcome). Happens os w (event.Frame port f) x os w b) (sym is)
    (silent os w w (event.Frame port f) quiet b refl refl refl refl (refl, refl, λ no_room. cc)
    (rw there refl) (rw there refl) (rw there refl) (rw there refl) (rw there refl) (rw there bpdus) none refl)

pub frame_happens : (os : List ObjectState) (w : World) (port : ℕ) (f : FrameIn) (no_room : Bool) (egress : List ℕ) (bridge : BridgeState) (b : Buffered) (q : EventOutcome)
    → q ≡ quiet → has_port w.bridge port ≡ true → bridge ≡ (frame_result w.bridge port f no_room).bridge
    → egress ≡ (frame_result w.bridge port f no_room).egress → b.bpdus ≡ (frame_result w.bridge port f no_room).bpdus
    → b.reply ≡ [] → (no_room ≡ true → MayLackMemory w.bridge port f)
    → Happens os w (event.Frame port f) (record q { no_room = no_room; egress = egress }) os (record w { bridge = bridge }) b
unfolding step_of
frame_happens os w port f no_room egress bridge b q is there after goes bpdus none note =
    subst (λ (x : EventOutcome). Happens os w (event.Frame port f) (record x { no_room = no_room; egress = egress }) os (record w { bridge = bridge }) b) (sym is)
    (silent os w (record w { bridge = bridge }) (event.Frame port f) (record quiet { no_room = no_room; egress = egress }) b refl refl refl refl
    (refl, refl, λ lacks. record { port_is_there = there; lacks = note lacks })
    (rw there (ap (λ (x : BridgeState). record w { bridge = x }) after)) (rw there refl) (rw there goes) (rw there refl) (rw there refl) (rw there bpdus) none refl)
