-- What objects show of a world, and one step of a request: what it is answered, its audit, and what
-- it leaves.
use Rattle.std.specs.Prelude.{◌≡◌, ℕ, ◌≤◌, pos, ◌+◌, ◌%◌, ◌^◌, All, [], List, length, map, Option, Some, None, Result, Ok, Err}
use Rattle.std.specs.declared.alloc.AllocError.{AllocError}
use Rattle.message_core.specs.Canon.{canon_reply, answer_to}
use Rattle.message_core.specs.declared.binding.Binding.{Binding}
use Rattle.message_core.specs.declared.limits.TheConstants.{MAX_COMMUNITY}
use Rattle.message_core.specs.declared.reply.Reply.{Reply}
use Rattle.message_core.specs.declared.request.Kind.{Kind}
use Rattle.message_core.specs.declared.request.Kind.TheVariants.{Get, GetNext, GetBulk, Set}
use Rattle.message_core.specs.declared.request.Request.{Request}
use Rattle.message_core.specs.declared.status.ErrorStatus.TheVariants.{NoError}
use Rattle.vacm_core.specs.Families.{in_view}
use Rattle.community_core.specs.Communities.{PolicyTables}
use Rattle.decision.specs.Deciding.{decision_on}
use Rattle.decision.specs.declared.choice.Cause.{Cause}
use Rattle.decision.specs.declared.choice.Cause.TheVariants.{UnknownCommunity, NoSuchContext}
use Rattle.decision.specs.declared.choice.Decision.{Decision}
use Rattle.decision.specs.declared.choice.Decision.TheVariants.{Drop, Empty, Refused, Allowed}
use Rattle.decision.specs.declared.keys.AccessKey.{AccessKey}
use Rattle.audit_core.specs.declared.audit.Audit.{Audit}
use Rattle.audit_core.specs.declared.denied.Denied.{Denied}
use Rattle.setphase_core.specs.declared.world.World.{World}
use Rattle.frame_core.specs.declared.bpdu.Bpdu.{Bpdu}
use Rattle.rstp_settings.specs.declared.key.Key.{Key}
use Rattle.setphase_core.specs.Objects.{ObjectRow, ObjectState, object_after_release}
use Rattle.setphase_core.specs.Outcomes.{SetNotes}
use Rattle.setphase_core.specs.Calls.{Call, FollowPlans}
use Rattle.setphase_core.specs.Registry.{rows_of, prefixes_of, instances}
use Rattle.agent_core.specs.Buffered.{Buffered}
use Rattle.agent_core.specs.Denying.{denied_in}
use Rattle.agent_core.specs.Lacking.{LacksNameOf}
use Rattle.agent_core.specs.Replies.{reply_within_limit, refusal_reply, name_failure_reply, kind_reply}
use Rattle.agent_core.specs.Sets.{SetStep, set_step, set_calls, no_notes, MayFailInSet, TakesInSet}
use Rattle.agent_core.specs.declared.answered.Answered.{Answered}
use Rattle.agent_core.specs.declared.answered.Answered.TheVariants as answered
use Rattle.agent_core.specs.declared.sent_reply.ReadReply.{ReadReply}
use Rattle.agent_core.specs.declared.sent_reply.SentReply.{SentReply}

-- what is shown: the names of the objects, the instances by rising name, and who may see which of
-- them
pub record Shown : Type 0 where
  pub objects : List (List ℕ)
  pub instances : List Binding
  pub policy : PolicyTables

-- what objects of these rows show of a world
abbrev pub shown_of : List ObjectRow → World → Shown
shown_of rows world = record {
  objects = prefixes_of rows;
  instances = instances rows world;
  policy = world.policy;
}

-- what a request amounts to
pub data Outcome : Type 0 where
  -- a request is dropped for this cause, and audited
  dropped : (cause : Cause) (audit : Audit) → Outcome
  -- a request has this reply, and is audited
  replied : (reply : Reply) (audit : Audit) → Outcome

-- A request that is dropped is audited by its kind and the cause; its status and index mean
-- nothing.
abbrev pub drop_audit : Request → Cause → Audit
drop_audit request cause = record {
  kind = request.kind;
  status = NoError;
  index = pos 0;
  decision = Drop cause;
  denied = [];
  unrestored = [];
}

abbrev pub drop_outcome : Request → Cause → Outcome
drop_outcome request cause = dropped cause (drop_audit request cause)

-- A request that has a reply is audited by its kind, the status and the index as they are sent, the
-- decision, the denied bindings, and the settings that a Set could not undo.
abbrev pub reply_audit : Request → Decision → List Denied → List Key → Reply → Audit
reply_audit request decision denied unrestored reply = record {
  kind = request.kind;
  status = reply.status;
  index = reply.index;
  decision = decision;
  denied = denied;
  unrestored = unrestored;
}

abbrev pub reply_outcome : Request → Decision → List Denied → Reply → Outcome
reply_outcome request decision denied reply =
    replied reply (reply_audit request decision denied [] reply)

-- The outcome of a request that writes nothing, by the decision. A request with no bindings is
-- answered noError with none, whatever its kind; the standard says nothing of it.
abbrev pub outcome_by : Shown → Request → Decision → Outcome
outcome_by shown request (Drop cause) = drop_outcome request cause
outcome_by shown request Empty =
    reply_outcome request Empty [] (reply_within_limit (answer_to request NoError (pos 0) []))
outcome_by shown request (Refused why) =
    reply_outcome request (Refused why) [] (refusal_reply request)
outcome_by shown request (Allowed row view) =
    reply_outcome request (Allowed row view)
    (denied_in shown.policy.vacm.families view request request.kind)
    (kind_reply shown.objects (in_view shown.policy.vacm.families view) shown.instances request
    request.kind)

unfoldable pub outcome_of : Shown → Request → Outcome
outcome_of shown request = outcome_by shown request (decision_on shown.policy request)

-- The same where there was no memory for a name that is made for this binding: a request that is
-- authorized for a view is answered genErr with its number, within the limit, and nothing is denied.
abbrev pub unnamed_outcome_by : Shown → Request → ℕ → Decision → Outcome
unnamed_outcome_by shown request i (Drop cause) = outcome_by shown request (Drop cause)
unnamed_outcome_by shown request i Empty = outcome_by shown request Empty
unnamed_outcome_by shown request i (Refused why) = outcome_by shown request (Refused why)
unnamed_outcome_by shown request i (Allowed row view) =
    reply_outcome request (Allowed row view) [] (name_failure_reply request i)

unfoldable pub unnamed_outcome : Shown → Request → ℕ → Outcome
unnamed_outcome shown request i =
    unnamed_outcome_by shown request i (decision_on shown.policy request)

abbrev pub noted_outcome : Shown → Request → Option ℕ → Outcome
noted_outcome shown request None = outcome_of shown request
noted_outcome shown request (Some i) = unnamed_outcome shown request i

-- the reply of an outcome, or none where the request is dropped
abbrev pub reply_in : Outcome → Option Reply
reply_in (dropped cause audit) = None
reply_in (replied reply audit) = Some reply

abbrev pub audit_in : Outcome → Audit
audit_in (dropped cause audit) = audit
audit_in (replied reply audit) = audit

-- the reply to a request that writes nothing, or none where it is dropped
abbrev pub reply_of : Shown → Request → Option Reply
reply_of shown request = reply_in (outcome_of shown request)

-- the same objects are shown, and two views agree on whether each asked name is in them
pub record AgreesOnAsked (shown other : Shown) (view other_view : List ℕ) (request : Request) :
    Type 0 where
  pub objects : shown.objects ≡ other.objects
  pub asked : All (λ b. in_view shown.policy.vacm.families view b.name
      ≡ in_view other.policy.vacm.families other_view b.name) request.bindings

-- Answering a request of this kind in a view may take memory: it reads, or it is a Set that may take
-- some.
abbrev pub TakesInView : List ObjectRow → World → List ℕ → Request → Kind → Type 0
TakesInView rows world view request Get = Unit {0}
TakesInView rows world view request GetNext = Unit {0}
TakesInView rows world view request GetBulk = Unit {0}
TakesInView rows world view request Set = TakesInSet rows world view request

-- Answering a request may take memory: it is authorized for a view, and takes some then.
pub record TakesMemory (rows : List ObjectRow) (world : World) (request : Request) : Type 0 where
  pub row : AccessKey
  pub view : List ℕ
  pub allowed : decision_on world.policy request ≡ Allowed row view
  pub takes : TakesInView rows world view request request.kind

-- a count, and one more
abbrev pub one_more : ℕ → ℕ
one_more count = (count + 1) % 2 ^ 32

-- one more request that this cause drops
abbrev pub with_count_of : World → Cause → World
with_count_of world UnknownCommunity =
    record world { bad_communities = one_more world.bad_communities }
with_count_of world (NoSuchContext name) =
    record world { unknown_contexts = one_more world.unknown_contexts }

-- A request that writes nothing is counted where it is dropped, and nothing else changes.
abbrev pub world_by : World → Decision → World
world_by world (Drop cause) = with_count_of world cause
world_by world Empty = world
world_by world (Refused why) = world
world_by world (Allowed row view) = world

unfoldable pub world_after : World → Request → World
world_after world request = world_by world (decision_on world.policy request)

-- One step of a request: its outcome, the world and the objects after it, and what the ports send,
-- from port 1 on.
pub record Step : Type 0 where
  pub outcome : Outcome
  pub world : World
  pub objects : List ObjectState
  pub bpdus : List (Option Bpdu)

-- What a request met that neither it nor the world says: which calls of devices failed in a Set, and
-- the number of the binding for which a name above 24 numbers was made, for which there was no memory.
pub record RequestNotes : Type 0 where
  pub devices : SetNotes
  pub unnamed : Option ℕ

abbrev pub nothing_met : RequestNotes
nothing_met = record { devices = no_notes; unnamed = None }

-- A request that writes nothing leaves the objects, and sends nothing.
abbrev pub reading_step : List ObjectState → World → Request → Option ℕ → Step
reading_step objects world request unnamed = record {
  outcome = noted_outcome (shown_of (rows_of objects) world) request unnamed;
  world = world_after world request;
  objects = objects;
  bpdus = [];
}

-- A Set that is authorized by this row for a view.
abbrev pub writing_step : Request → AccessKey → List ℕ → SetStep → Step
writing_step request row view set = record {
  outcome = replied set.reply
      (reply_audit request (Allowed row view) set.denied set.unrestored set.reply);
  world = set.world;
  objects = set.objects;
  bpdus = set.bpdus;
}

abbrev pub allowed_step : List ObjectState → World → Request → RequestNotes → AccessKey → List ℕ →
    Kind → Step
allowed_step objects world request notes row view Get =
    reading_step objects world request notes.unnamed
allowed_step objects world request notes row view GetNext =
    reading_step objects world request notes.unnamed
allowed_step objects world request notes row view GetBulk =
    reading_step objects world request notes.unnamed
allowed_step objects world request notes row view Set =
    writing_step request row view (set_step objects world view request notes.devices)

abbrev pub step_by : List ObjectState → World → Request → RequestNotes → Decision → Step
step_by objects world request notes (Drop cause) = reading_step objects world request None
step_by objects world request notes Empty = reading_step objects world request None
step_by objects world request notes (Refused why) = reading_step objects world request None
step_by objects world request notes (Allowed row view) =
    allowed_step objects world request notes row view request.kind

-- The step of a request over objects and a world, where it met this.
unfoldable pub step_of : List ObjectState → World → Request → RequestNotes → Step
step_of objects world request notes =
    step_by objects world request notes (decision_on world.policy request)

-- For which binding there may be no memory for a name: for one for which a name above 24 numbers is
-- made.
abbrev pub MayLackName : List ObjectRow → World → List ℕ → Request → Kind → Option ℕ → Type 0
MayLackName rows world view request kind None = Unit {0}
MayLackName rows world view request kind (Some i) =
    LacksNameOf (in_view world.policy.vacm.families view) (instances rows world) request kind i

-- Which calls of devices may fail: those of a Set alone.
abbrev pub MayFailInView : List ObjectRow → World → List ℕ → Request → SetNotes → Kind → Type 0
MayFailInView rows world view request notes Get = notes ≡ no_notes
MayFailInView rows world view request notes GetNext = notes ≡ no_notes
MayFailInView rows world view request notes GetBulk = notes ≡ no_notes
MayFailInView rows world view request notes Set = MayFailInSet rows world view request notes

-- What a request that is authorized for a view may meet: no memory for a name, where it is a GetNext or a
-- GetBulk; calls of devices that fail, where it is a Set.
pub record MayMeetInView (rows : List ObjectRow) (world : World) (view : List ℕ)
    (request : Request) (notes : RequestNotes) : Type 0 where
  pub devices : MayFailInView rows world view request notes.devices request.kind
  pub unnamed : MayLackName rows world view request request.kind notes.unnamed

abbrev pub MayFailBy : List ObjectRow → World → Request → RequestNotes → Decision → Type 0
MayFailBy rows world request notes (Drop cause) = notes ≡ nothing_met
MayFailBy rows world request notes Empty = notes ≡ nothing_met
MayFailBy rows world request notes (Refused why) = notes ≡ nothing_met
MayFailBy rows world request notes (Allowed row view) =
    MayMeetInView rows world view request notes

unfoldable pub MayHave : List ObjectRow → World → Request → RequestNotes → Type 0
MayHave rows world request notes =
    MayFailBy rows world request notes (decision_on world.policy request)

-- The calls of devices that a request makes, where they failed so: those of a Set alone, and of one
-- that is authorized for a view.
abbrev pub calls_in_view : List ObjectRow → World → List ℕ → Request → SetNotes → Kind → List Call
calls_in_view rows world view request notes Get = []
calls_in_view rows world view request notes GetNext = []
calls_in_view rows world view request notes GetBulk = []
calls_in_view rows world view request notes Set = set_calls rows world view request notes

abbrev pub calls_by : List ObjectRow → World → Request → SetNotes → Decision → List Call
calls_by rows world request notes (Drop cause) = []
calls_by rows world request notes Empty = []
calls_by rows world request notes (Refused why) = []
calls_by rows world request notes (Allowed row view) =
    calls_in_view rows world view request notes request.kind

unfoldable pub request_calls : List ObjectRow → World → Request → SetNotes → List Call
request_calls rows world request notes =
    calls_by rows world request notes (decision_on world.policy request)

-- these octets are a reply in its minimal encoding, and this is reported of it
pub record IsSent (reply : Reply) (sent : SentReply) (sent_octets : List ℕ) : Type 0 where
  pub octets : sent_octets ≡ canon_reply reply
  pub len : sent.length ≡ length (canon_reply reply)
  pub status : sent.status ≡ reply.status
  pub index : sent.index ≡ reply.index

-- A reply stands in the buffer in its minimal encoding, or the request is dropped and the buffer is
-- empty; and the audit is reported.
abbrev pub IsAnswered : Outcome → Answered → Buffered → Type 0
IsAnswered (replied reply audit) (answered.Reply len reported failed) buffer =
    (buffer.reply ≡ canon_reply reply) × (len ≡ length (canon_reply reply)) × (reported ≡ audit)
IsAnswered (replied reply audit) (answered.Unnamed len reported i) buffer =
    (buffer.reply ≡ canon_reply reply) × (len ≡ length (canon_reply reply)) × (reported ≡ audit)
IsAnswered (replied reply audit) (answered.NoReply reported) buffer = ⊥
IsAnswered (dropped cause audit) (answered.Reply len reported failed) buffer = ⊥
IsAnswered (dropped cause audit) (answered.Unnamed len reported i) buffer = ⊥
IsAnswered (dropped cause audit) (answered.NoReply reported) buffer =
    (buffer.reply ≡ []) × (reported ≡ audit)

-- A reply stands in the buffer, and is reported with this decision and these denied bindings; no device
-- failed.
abbrev pub IsReply : Reply → Request → Decision → List Denied → Answered → List ℕ → Type 0
IsReply reply request decision denied (answered.Reply len reported failed) octets =
    (octets ≡ canon_reply reply) × (len ≡ length (canon_reply reply))
    × (reported ≡ reply_audit request decision denied [] reply) × (failed ≡ None)
IsReply reply request decision denied (answered.Unnamed len reported i) octets = ⊥
IsReply reply request decision denied (answered.NoReply reported) octets = ⊥

-- What is known of a reply to a request that reads: it is this one; or it is genErr with the number of
-- a binding, within the limit, since there was no memory for a name that is made for it.
abbrev pub IsSentBy : Reply → Request → (ℕ → Type 0) → Option ℕ → SentReply → List ℕ → Type 0
IsSentBy reply request lacks None sent octets = IsSent reply sent octets
IsSentBy reply request lacks (Some i) sent octets =
    IsSent (name_failure_reply request i) sent octets × lacks i

abbrev pub IsSentRead : Reply → Request → (ℕ → Type 0) → ReadReply → List ℕ → Type 0
IsSentRead reply request lacks read octets =
    IsSentBy reply request lacks read.unnamed read.sent octets

-- The same of what is answered, with this decision and these denied bindings.
abbrev pub IsRead : Reply → Request → Decision → List Denied → (ℕ → Type 0) → Answered → List ℕ →
    Type 0
IsRead reply request decision denied lacks (answered.Reply len reported failed) octets =
    IsReply reply request decision denied (answered.Reply len reported failed) octets
IsRead reply request decision denied lacks (answered.Unnamed len reported i) octets =
    (octets ≡ canon_reply (name_failure_reply request i))
    × (len ≡ length (canon_reply (name_failure_reply request i)))
    × (reported ≡ reply_audit request decision [] [] (name_failure_reply request i)) × lacks i
IsRead reply request decision denied lacks (answered.NoReply reported) octets = ⊥

-- Which calls of devices are reported to have failed: a commit, and the undoing of the settings that
-- the audit has.
abbrev pub notes_reported : Answered → SetNotes
notes_reported (answered.Reply len audit failed) =
    record { commit = failed; undos = audit.unrestored }
notes_reported (answered.Unnamed len audit i) = no_notes
notes_reported (answered.NoReply audit) = no_notes

-- the binding for which a name was made that found no memory, as it is reported
abbrev pub unnamed_reported : Answered → Option ℕ
unnamed_reported (answered.Reply len audit failed) = None
unnamed_reported (answered.Unnamed len audit i) = Some i
unnamed_reported (answered.NoReply audit) = None

-- what a request met, as it is reported
abbrev pub met_by : Answered → RequestNotes
met_by reported = record { devices = notes_reported reported; unnamed = unnamed_reported reported }

-- The step is done: the outcome is reported, and all is as it makes it.
pub record IsDone (step : Step) (reported : Answered) (buffer : Buffered) (later : World)
    (objects : List ObjectState) : Type 0 where
  pub answer : IsAnswered step.outcome reported buffer
  pub world : later ≡ step.world
  pub objects_after : objects ≡ step.objects
  pub bpdus : buffer.bpdus ≡ step.bpdus

-- What a Set leaves of the objects where there was no memory for its audit or its static rows:
-- nothing is reserved.
abbrev pub without_answer : Kind → List ObjectState → List ObjectState
without_answer Get objects = objects
without_answer GetNext objects = objects
without_answer GetBulk objects = objects
without_answer Set objects = map object_after_release objects

-- There was no memory for the step: nothing that is shown has changed and nothing is reported, and the
-- request is one whose answer may take some.
pub record IsShort (objects : List ObjectState) (before : World) (request : Request)
    (buffer : Buffered) (later : World) (objects_later : List ObjectState) : Type 0 where
  pub empty : buffer.reply ≡ []
  pub silent : buffer.bpdus ≡ []
  pub unchanged : later ≡ before
  pub kept : objects_later ≡ without_answer request.kind objects
  pub takes : TakesMemory (rows_of objects) before request
  pub community : length request.community ≤ MAX_COMMUNITY

-- The step that is reported, with calls of devices that may have failed so, each exactly where the plan
-- of its object stated so, if that has one.
pub record IsReported (objects : List ObjectState) (before : World) (request : Request)
    (reported : Answered) (buffer : Buffered) (later : World) (objects_later : List ObjectState) :
    Type 0 where
  pub may : MayHave (rows_of objects) before request (met_by reported)
  pub by_plan : FollowPlans (request_calls (rows_of objects) before request (notes_reported reported))
      objects
  pub done : IsDone (step_of objects before request (met_by reported)) reported buffer later
      objects_later

-- A step over objects and a world, as far as there is memory for it.
abbrev pub IsStep : List ObjectState → World → Request → Result Answered AllocError → Buffered →
    World → List ObjectState → Type 0
IsStep objects before request (Ok reported) buffer later objects_later =
    IsReported objects before request reported buffer later objects_later
IsStep objects before request (Err e) buffer later objects_later =
    IsShort objects before request buffer later objects_later
