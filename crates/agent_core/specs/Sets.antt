-- What answers a Set that is authorized for a view, and what it leaves (RFC 3416, 4.2.5).
use Rattle.std.specs.Prelude.{◌≡◌, ℕ, ◌+◌, ◌<◌, pos, Bool, true, false, not, nat_lt, if◌then◌else◌, List, [], ◌∷◌, length, map, Option, Some, None, IsSome}
use Rattle.message_core.specs.Canon.{canon_reply, answer_to}
use Rattle.message_core.specs.declared.limits.TheConstants.{MAX_REPLY}
use Rattle.message_core.specs.declared.reply.Reply.{Reply}
use Rattle.message_core.specs.declared.request.Request.{Request}
use Rattle.message_core.specs.declared.status.ErrorStatus.{ErrorStatus}
use Rattle.message_core.specs.declared.status.ErrorStatus.TheVariants.{NoError, TooBig, GenErr, CommitFailed, UndoFailed}
use Rattle.vacm_core.specs.declared.tables.FamilyRow.{FamilyRow}
use Rattle.audit_core.specs.declared.denied.Denied.{Denied}
use Rattle.frame_core.specs.declared.bpdu.Bpdu.{Bpdu}
use Rattle.bridge_core.specs.Events.{settling_of, after_settling}
use Rattle.rstp_settings.specs.declared.key.Key.{Key}
use Rattle.setphase_core.specs.declared.sets.SetRefusal.{SetRefusal}
use Rattle.setphase_core.specs.declared.sets.SetOutcome.{SetOutcome}
use Rattle.setphase_core.specs.declared.world.World.{World}
use Rattle.setphase_core.specs.Objects.{ObjectRow, ObjectState}
use Rattle.setphase_core.specs.Registry.{rows_of}
use Rattle.setphase_core.specs.Settings.{same_settings_of}
use Rattle.setphase_core.specs.Variables.{NamedAssignment, writings}
use Rattle.setphase_core.specs.Together.{assignments, refusal_of}
use Rattle.setphase_core.specs.Staging.{static_count}
use Rattle.setphase_core.specs.Outcomes.{SetNotes, committed_of, AreNotes, refusal_in, notes_in, world_after_set}
use Rattle.setphase_core.specs.Calls.{Call, calls_of, object_after_set}
use Rattle.agent_core.specs.Denying.{denied_variable}
use Rattle.agent_core.specs.Replies.{reply_within_limit}
use Rattle.agent_core.specs.declared.sets.SetReported.{SetReported}

-- The greatest error-index: four octets (RFC 3416, section 3).
abbrev pub greatest_index : ℕ
greatest_index = 2147483647

-- The response to a Set is measured before anything is tested: with its own bindings, beside a
-- status of one octet and an index of four.
abbrev pub longest_response : Request → Reply
longest_response request = answer_to request GenErr (pos greatest_index) request.bindings

abbrev pub is_too_long : Request → Bool
is_too_long request = nat_lt MAX_REPLY (length (canon_reply (longest_response request)))

-- What answers a Set that is too long, and is not tested.
abbrev pub too_long_reply : Request → Reply
too_long_reply request = answer_to request TooBig (pos 0) []

-- No call of a device failed.
abbrev pub no_notes : SetNotes
no_notes = record { commit = None; undos = [] }

-- What is reported of a Set: status, index, and the variable to which the view gives no access.
pub record SetAnswer : Type 0 where
  pub status : ErrorStatus
  pub index : ℕ
  pub denied : List Denied

abbrev pub answer_of_refusal : List FamilyRow → SetRefusal → SetAnswer
answer_of_refusal families refusal = record {
  status = refusal.status;
  index = refusal.index;
  denied = denied_variable families refusal.index refusal.family;
}

-- A commit failed: all was undone, or some could not be, which has index 0.
abbrev pub answer_of_failure : ℕ → List Key → SetAnswer
answer_of_failure i [] = record { status = CommitFailed; index = i; denied = [] }
answer_of_failure i (key ∷ keys) = record { status = UndoFailed; index = 0; denied = [] }

abbrev pub answer_of_notes : Option ℕ → List Key → SetAnswer
answer_of_notes None undos = record { status = NoError; index = 0; denied = [] }
answer_of_notes (Some i) undos = answer_of_failure i undos

abbrev pub set_answer : List FamilyRow → Option SetRefusal → SetNotes → SetAnswer
set_answer families (Some refusal) notes = answer_of_refusal families refusal
set_answer families None notes = answer_of_notes notes.commit notes.undos

-- A response to a Set has the bindings of the request, whatever its status.
abbrev pub set_reply : Request → SetAnswer → Reply
set_reply request answer =
    reply_within_limit (answer_to request answer.status (pos answer.index) request.bindings)

-- What is reported of a Set that ended so.
pub record IsReportedOf (families : List FamilyRow) (outcome : SetOutcome) (reported : SetReported) :
    Type 0 where
  pub status : reported.status
      ≡ (set_answer families (refusal_in outcome) (notes_in outcome)).status
  pub index : reported.index
      ≡ pos (set_answer families (refusal_in outcome) (notes_in outcome)).index
  pub denied : reported.denied
      ≡ (set_answer families (refusal_in outcome) (notes_in outcome)).denied
  pub failed_commit : reported.failed ≡ (notes_in outcome).commit
  pub unrestored : reported.unrestored ≡ (notes_in outcome).undos

-- ---- what it leaves

-- Settings are settled, once, where one changed.
abbrev pub settled : Bool → World → World
settled true after = record after { bridge = after_settling after.bridge }
settled false after = after

abbrev pub settled_bpdus : Bool → World → List (Option Bpdu)
settled_bpdus true after = (settling_of after.bridge).bpdus
settled_bpdus false after = []

-- Where one differs from before.
unfoldable pub settled_world : World → World → World
settled_world before after = settled (not (same_settings_of before after)) after

unfoldable pub settling_bpdus : World → World → List (Option Bpdu)
settling_bpdus before after = settled_bpdus (not (same_settings_of before after)) after

-- ---- in all

-- What a Set amounts to.
pub record SetStep : Type 0 where
  pub reply : Reply
  pub denied : List Denied
  pub unrestored : List Key
  pub world : World
  pub objects : List ObjectState
  -- what the ports send, from port 1 on
  pub bpdus : List (Option Bpdu)

-- One that is too long changes nothing.
abbrev pub untested_step : List ObjectState → World → Request → SetStep
untested_step objects world request = record {
  reply = too_long_reply request;
  denied = [];
  unrestored = [];
  world = world;
  objects = objects;
  bpdus = [];
}

-- The other ones, by what they are refused for, by what they leave before it is settled, and by the
-- calls of devices that they make.
abbrev pub tested_step_by : List ObjectState → World → Request → SetNotes → SetAnswer → World →
    List Call → SetStep
tested_step_by objects world request notes answer after calls = record {
  reply = set_reply request answer;
  denied = answer.denied;
  unrestored = notes.undos;
  world = settled_world world after;
  objects = map (object_after_set calls) objects;
  bpdus = settling_bpdus world after;
}

abbrev pub tested_step : List ObjectState → World → List ℕ → Request → SetNotes → SetStep
tested_step objects world view request notes =
    tested_step_by objects world request notes
    (set_answer world.policy.vacm.families
    (refusal_of (rows_of objects) world view request.bindings) notes)
    (world_after_set (refusal_of (rows_of objects) world view request.bindings)
    (writings (rows_of objects) world request.bindings) world notes)
    (calls_of (refusal_of (rows_of objects) world view request.bindings)
    (writings (rows_of objects) world request.bindings) notes)

-- A Set in a view, where its calls of devices failed so.
unfoldable pub set_step : List ObjectState → World → List ℕ → Request → SetNotes → SetStep
set_step objects world view request notes =
    if is_too_long request then untested_step objects world request
    else tested_step objects world view request notes

-- The calls of devices that a Set in a view makes, where they failed so: none where nothing is
-- tested.
unfoldable pub set_calls : List ObjectRow → World → List ℕ → Request → SetNotes → List Call
set_calls rows world view request notes =
    if is_too_long request then []
    else calls_of (refusal_of rows world view request.bindings)
    (writings rows world request.bindings) notes

-- ---- what it may meet

-- Which calls of devices may fail: none where the Set is refused.
abbrev pub MayFail : Option SetRefusal → List NamedAssignment → SetNotes → Type 0
MayFail (Some refusal) ws notes = notes ≡ no_notes
MayFail None ws notes = AreNotes ws notes

abbrev pub MayFailWhere : Bool → Option SetRefusal → List NamedAssignment → SetNotes → Type 0
MayFailWhere true refusal ws notes = notes ≡ no_notes
MayFailWhere false refusal ws notes = MayFail refusal ws notes

-- and none where nothing is tested.
abbrev pub MayFailInSet : List ObjectRow → World → List ℕ → Request → SetNotes → Type 0
MayFailInSet rows world view request notes =
    MayFailWhere (is_too_long request) (refusal_of rows world view request.bindings)
    (writings rows world request.bindings) notes

-- A refusal since the view gives no access to a variable.
abbrev pub IsDenied : Option SetRefusal → Type 0
IsDenied (Some refusal) = IsSome refusal.family
IsDenied None = ⊥

-- The assignments write a setting of a static row, and the bridge was not sure of memory for a row of
-- each such setting.
pub record TakesPlaces (world : World) (ws : List NamedAssignment) : Type 0 where
  pub some : 0 < static_count (assignments ws)
  pub lacks : world.bridge.statics.places
      < length world.bridge.statics.rows + static_count (assignments (committed_of ws))

-- By why a Set is refused, if it is.
abbrev pub TakesInSetBy : Option SetRefusal → World → List NamedAssignment → Type 0
TakesInSetBy (Some refusal) world ws = IsSome refusal.family
TakesInSetBy None world ws = TakesPlaces world ws

-- A Set whose answer may take memory: its response is not too long; and its audit names a variable to
-- which the view gives no access, or it is not refused, and takes places for static rows.
pub record TakesInSet (rows : List ObjectRow) (world : World) (view : List ℕ)
    (request : Request) : Type 0 where
  pub fits : is_too_long request ≡ false
  pub takes : TakesInSetBy (refusal_of rows world view request.bindings) world
      (writings rows world request.bindings)
