-- What an event makes of a world and the objects that show it, and what comes out of it.
use Rattle.std.specs.Prelude.{◌≡◌, ℕ, Bool, true, false, IsTrue, ◌&&◌, nat_le, if◌then◌else◌, List, [], Option, Some, None}
use Rattle.std.specs.List.{AllByRecursion}
use Rattle.message_core.specs.Canon.{canon_reply}
use Rattle.message_core.specs.Encodable.{AreEncodable}
use Rattle.message_core.specs.declared.request.Request.{Request}
use Rattle.community_core.specs.Communities.{PolicyTables}
use Rattle.decision.specs.Deciding.{decision_on}
use Rattle.decision.specs.declared.choice.Cause.{Cause}
use Rattle.decision.specs.declared.choice.Decision.{Decision}
use Rattle.decision.specs.declared.choice.Decision.TheVariants.{Drop, Empty, Refused, Allowed}
use Rattle.audit_core.specs.declared.audit.Audit.{Audit}
use Rattle.frame_core.specs.declared.bpdu.Bpdu.{Bpdu}
use Rattle.frame_core.specs.declared.frame.FrameIn.{FrameIn}
use Rattle.bridge_core.specs.Bridge.{BridgeState, port_count}
use Rattle.bridge_core.specs.Events.{Framed, frame_result, tick_of, after_tick, link_of, after_link}
use Rattle.bridge_core.specs.Forwarding.{MayLackMemory}
use Rattle.setphase_core.specs.Objects.{ObjectRow, ObjectState}
use Rattle.setphase_core.specs.Outcomes.{SetNotes}
use Rattle.setphase_core.specs.Calls.{Call}
use Rattle.setphase_core.specs.declared.world.World.{World}
use Rattle.agent_core.specs.Answers as answers
use Rattle.agent_core.specs.Answers.{Outcome, dropped, replied, audit_in, RequestNotes, MayHave, request_calls}
use Rattle.agent_core.specs.Replies.{failure_reply}
use Rattle.agent_core.specs.Sets.{no_notes}
use Rattle.history_core.specs.declared.event.Event.{Event}
use Rattle.history_core.specs.declared.event.Event.TheVariants as event

-- What an event met that neither it nor the world says: whether there was no memory for the learned
-- row of a frame's source, which calls of devices failed in a Set, and the number of the binding of a
-- request for which a name above 24 numbers was made, where there was no memory for it.
pub record Notes : Type 0 where
  pub no_room : Bool
  pub devices : SetNotes
  pub unnamed : Option ℕ

abbrev pub nothing_noted : Notes
nothing_noted = record { no_room = false; devices = no_notes; unnamed = None }

-- those of them that a request can have
abbrev pub request_notes : Notes → RequestNotes
request_notes notes = record { devices = notes.devices; unnamed = notes.unnamed }

-- The world and the objects after an event; the ports by which a frame goes out; the octets of the
-- reply and the audit of a request; and the BPDUs that the ports send, from port 1 on.
pub record Step : Type 0 where
  pub world : World
  pub objects : List ObjectState
  pub egress : List ℕ
  pub reply : Option (List ℕ)
  pub audit : Option Audit
  pub bpdus : List (Option Bpdu)

-- Nothing changes, and nothing comes out.
abbrev pub silent_step : List ObjectState → World → Step
silent_step objects w = record { world = w; objects = objects; egress = []; reply = None; audit = None; bpdus = [] }

-- The bridge alone changes.
abbrev pub bridge_step : List ObjectState → World → BridgeState → List ℕ → List (Option Bpdu) → Step
bridge_step objects w b egress bpdus = record {
  world = record w { bridge = b };
  objects = objects;
  egress = egress;
  reply = None;
  audit = None;
  bpdus = bpdus;
}

-- whether a bridge has a port of this number
abbrev pub has_port : BridgeState → ℕ → Bool
has_port b port = nat_le 1 port && nat_le port (port_count b)

abbrev pub framed_step : List ObjectState → World → Framed → Step
framed_step objects w framed = bridge_step objects w framed.bridge framed.egress framed.bpdus

-- A frame, or a change of a link, at a port that is not there does nothing.
abbrev pub frame_step : List ObjectState → World → ℕ → FrameIn → Bool → Step
frame_step objects w port frame no_room =
    if has_port w.bridge port
    then framed_step objects w (frame_result w.bridge port frame no_room)
    else silent_step objects w

abbrev pub tick_step : List ObjectState → World → Step
tick_step objects w = bridge_step objects w (after_tick w.bridge) [] (tick_of w.bridge).bpdus

abbrev pub link_step : List ObjectState → World → ℕ → Bool → Step
link_step objects w port up =
    if has_port w.bridge port
    then bridge_step objects w (after_link port up w.bridge) [] (link_of port up w.bridge).bpdus
    else silent_step objects w

-- A policy takes the place of the one that was there, and nothing else changes.
abbrev pub policy_step : List ObjectState → World → PolicyTables → Step
policy_step objects w tables = record {
  world = record w { policy = tables };
  objects = objects;
  egress = [];
  reply = None;
  audit = None;
  bpdus = [];
}

-- the octets of the reply that an outcome has, in their minimal encoding
abbrev pub octets_in : Outcome → Option (List ℕ)
octets_in (dropped cause audit) = None
octets_in (replied reply audit) = Some (canon_reply reply)

-- A request: what it is answered (RFC 3416, 4.2).
abbrev pub request_step : answers.Step → Step
request_step step = record {
  world = step.world;
  objects = step.objects;
  egress = [];
  reply = octets_in step.outcome;
  audit = Some (audit_in step.outcome);
  bpdus = step.bpdus;
}

-- One step.
unfoldable pub step_of : List ObjectState → World → Event → Notes → Step
step_of objects w (event.Frame port frame) notes = frame_step objects w port frame notes.no_room
step_of objects w event.Tick notes = tick_step objects w
step_of objects w (event.Link port up) notes = link_step objects w port up
step_of objects w (event.Policy tables) notes = policy_step objects w tables
step_of objects w (event.Request request) notes =
    request_step (answers.step_of objects w request (request_notes notes))

-- The calls of devices that an event makes, where they failed so: those of a request alone.
abbrev pub event_calls : List ObjectRow → World → Event → Notes → List Call
event_calls rows w (event.Frame port frame) notes = []
event_calls rows w event.Tick notes = []
event_calls rows w (event.Link port up) notes = []
event_calls rows w (event.Policy tables) notes = []
event_calls rows w (event.Request request) notes = request_calls rows w request notes.devices

-- What may be noted of an event: no memory for a learned row only of a frame at a port that is there
-- whose source is to have a row of its own, failed calls of devices only of a Set that makes them, and
-- no memory for a name only of a GetNext or a GetBulk that makes a long one.
pub record MayLackSpace (b : BridgeState) (port : ℕ) (frame : FrameIn) : Type 0 where
  pub port_is_there : IsTrue (has_port b port)
  pub lacks : MayLackMemory b port frame

abbrev pub MayNote : List ObjectRow → World → Event → Notes → Type 0
MayNote rows w (event.Frame port frame) notes =
    (notes.devices ≡ no_notes) × (notes.unnamed ≡ None)
    × (notes.no_room ≡ true → MayLackSpace w.bridge port frame)
MayNote rows w event.Tick notes = notes ≡ nothing_noted
MayNote rows w (event.Link port up) notes = notes ≡ nothing_noted
MayNote rows w (event.Policy tables) notes = notes ≡ nothing_noted
MayNote rows w (event.Request request) notes =
    (notes.no_room ≡ false) × MayHave rows w request (request_notes notes)

-- The names and OBJECT IDENTIFIER values of a request have an encoding, as those that `decode`
-- gives.
abbrev pub IsEncodable : Event → Type 0
IsEncodable (event.Frame port frame) = Unit {0}
IsEncodable event.Tick = Unit {0}
IsEncodable (event.Link port up) = Unit {0}
IsEncodable (event.Policy tables) = Unit {0}
IsEncodable (event.Request request) = AreEncodable request.bindings

-- Events that may take memory of their own: a policy, which is copied into the world, and a request,
-- which is answered.
abbrev pub MayTakeMemory : Event → Type 0
MayTakeMemory (event.Frame port frame) = ⊥
MayTakeMemory event.Tick = ⊥
MayTakeMemory (event.Link port up) = ⊥
MayTakeMemory (event.Policy tables) = Unit {0}
MayTakeMemory (event.Request request) = Unit {0}

-- why a request is dropped, where it is
abbrev pub cause_in : Decision → Option Cause
cause_in (Drop cause) = Some cause
cause_in Empty = None
cause_in (Refused why) = None
cause_in (Allowed row view) = None

abbrev pub cause_of : World → Event → Option Cause
cause_of w (event.Frame port frame) = None
cause_of w event.Tick = None
cause_of w (event.Link port up) = None
cause_of w (event.Policy tables) = None
cause_of w (event.Request request) = cause_in (decision_on w.policy request)

-- The octets that answer a request for which there was no memory (RFC 3416, 4.2.1); none where it
-- is dropped, and none for any other event.
abbrev pub failure_unless : Option Cause → Request → List ℕ
failure_unless (Some cause) request = []
failure_unless None request = canon_reply (failure_reply request)

abbrev pub failure_octets : World → Event → List ℕ
failure_octets w (event.Frame port frame) = []
failure_octets w event.Tick = []
failure_octets w (event.Link port up) = []
failure_octets w (event.Policy tables) = []
failure_octets w (event.Request request) =
    failure_unless (cause_in (decision_on w.policy request)) request

-- An object that has nothing reserved.
abbrev pub IsAtRest : ObjectState → Type 0
IsAtRest o = o.reserved ≡ []

abbrev pub AreAtRest : List ObjectState → Type 0
AreAtRest objects = AllByRecursion IsAtRest objects
