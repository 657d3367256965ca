-- The outcome of an event, as `apply` hands it on inside the crate.
use Rattle.std.specs.Prelude.{◌≡◌, ℕ, false, List, [], Some, None, unwrap_or}
use Rattle.audit_core.specs.declared.audit.Audit.{Audit}
use Rattle.setphase_core.specs.Objects.{ObjectState}
use Rattle.setphase_core.specs.Calls.{FollowPlans}
use Rattle.setphase_core.specs.Registry.{rows_of}
use Rattle.setphase_core.specs.declared.world.World.{World}
use Rattle.agent_core.specs.Buffered.{Buffered}
use Rattle.agent_core.specs.declared.answered.Answered.{Answered}
use Rattle.agent_core.specs.declared.answered.Answered.TheVariants as answered
use Rattle.history_core.specs.Steps.{Notes, step_of, event_calls, MayNote}
use Rattle.history_core.specs.History.{undos_in}
use Rattle.history_core.specs.declared.event.Event.{Event}
use Rattle.history_core.specs.declared.happening.EventOutcome.{EventOutcome}

-- An event that is no frame and no request has no outcome beside what the ports send.
abbrev pub quiet : EventOutcome
quiet = record {
  no_room = false;
  failed = None;
  unnamed = None;
  egress = [];
  reply = None;
  reported_reply = None;
  audit = None;
  reported_audit = None;
}

-- the audit that an answer reports
abbrev pub audit_reported : Answered → Audit
audit_reported (answered.Reply len audit failed) = audit
audit_reported (answered.Unnamed len audit i) = audit
audit_reported (answered.NoReply audit) = audit

-- The outcome of an answered request, where these octets are its reply, if it has one.
abbrev pub happened_by : Answered → List ℕ → EventOutcome
happened_by (answered.Reply len audit failed) reply = record quiet {
  failed = failed;
  reply = Some reply;
  reported_reply = Some reply;
  audit = Some audit;
  reported_audit = Some audit;
}
happened_by (answered.Unnamed len audit i) reply = record quiet {
  unnamed = Some i;
  reply = Some reply;
  reported_reply = Some reply;
  audit = Some audit;
  reported_audit = Some audit;
}
happened_by (answered.NoReply audit) reply = record quiet { audit = Some audit; reported_audit = Some audit }

-- what is noted of it
abbrev pub notes_in : EventOutcome → Notes
notes_in h = record {
  no_room = h.no_room;
  devices = record { commit = h.failed; undos = undos_in h.audit };
  unnamed = h.unnamed;
}

-- An event that met this, and had this outcome, is the step.
pub record HappensBy (objects : List ObjectState) (w : World) (e : Event) (notes : Notes)
    (h : EventOutcome) (objects_later : List ObjectState) (later : World) (buffer : Buffered) :
    Type 0 where
  pub may : MayNote (rows_of objects) w e notes
  pub by_plan : FollowPlans (event_calls (rows_of objects) w e notes) objects
  pub world : later ≡ (step_of objects w e notes).world
  pub objects_after : objects_later ≡ (step_of objects w e notes).objects
  pub egress : h.egress ≡ (step_of objects w e notes).egress
  pub reply : h.reply ≡ (step_of objects w e notes).reply
  pub same_reply : h.reported_reply ≡ (step_of objects w e notes).reply
  pub sent : buffer.reply ≡ unwrap_or (step_of objects w e notes).reply []
  pub audit : h.audit ≡ (step_of objects w e notes).audit
  pub same_audit : h.reported_audit ≡ (step_of objects w e notes).audit
  pub bpdus : buffer.bpdus ≡ (step_of objects w e notes).bpdus

abbrev pub Happens : List ObjectState → World → Event → EventOutcome → List ObjectState → World →
    Buffered → Type 0
Happens objects w e h objects_later later buffer =
    HappensBy objects w e (notes_in h) h objects_later later buffer
