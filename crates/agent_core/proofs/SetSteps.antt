-- The step of a Set, and the steps of other requests, from what was called.
use Rattle.std.proofs.Common.{◌≡◌, ◌≢◌, ◌∙◌, ℕ, ℤ, pos, ◌≤◌, true, false, List, [], length, map, Option, Some, None, Result, Ok, Err, IfOk, IfSome, OnErr, ap, refl, sym, subst}
use Rattle.std.specs.declared.alloc.AllocError.{AllocError}
use Rattle.message_core.specs.Canon.{answer_to}
use Rattle.message_core.specs.declared.limits.TheConstants.{MAX_COMMUNITY}
use Rattle.message_core.specs.declared.reply.Reply.{Reply}
use Rattle.message_core.specs.declared.request.Kind.{Kind}
use Rattle.message_core.specs.declared.request.Kind.TheVariants.{Get, GetNext, GetBulk, Set}
use Rattle.message_core.specs.declared.request.Request.{Request}
use Rattle.message_core.specs.declared.status.ErrorStatus.{ErrorStatus}
use Rattle.message_core.specs.declared.status.ErrorStatus.TheVariants.{NoError}
use Rattle.vacm_core.specs.Families.{in_view}
use Rattle.vacm_core.specs.declared.tables.FamilyRow.{FamilyRow}
use Rattle.audit_core.specs.declared.audit.Audit.{Audit}
use Rattle.audit_core.specs.declared.denied.Denied.{Denied}
use Rattle.decision.specs.Deciding.{decision_on}
use Rattle.decision.specs.declared.keys.AccessKey.{AccessKey}
use Rattle.decision.specs.declared.choice.Cause.{Cause}
use Rattle.decision.specs.declared.choice.Refusal.{Refusal as Why}
use Rattle.decision.specs.declared.choice.Decision.{Decision}
use Rattle.decision.specs.declared.choice.Decision.TheVariants.{Drop, Empty, Refused, Allowed}
use Rattle.rstp_settings.specs.declared.key.Key.{Key}
use Rattle.setphase_core.specs.declared.sets.SetRefusal.{SetRefusal}
use Rattle.setphase_core.specs.declared.sets.SetOutcome.{SetOutcome}
use Rattle.setphase_core.specs.declared.sets.SetOutcome.TheVariants as ended
use Rattle.setphase_core.specs.declared.world.World.{World}
use Rattle.setphase_core.specs.Objects.{ObjectRow, ObjectState, object_after_release}
use Rattle.setphase_core.specs.Registry.{rows_of, prefixes_of, instances}
use Rattle.setphase_core.specs.Variables.{NamedAssignment, writings}
use Rattle.setphase_core.specs.Together.{refusal_of}
use Rattle.setphase_core.specs.Outcomes.{SetNotes, refusal_in, notes_in, world_after_set}
use Rattle.setphase_core.specs.Calls.{calls_of, object_after_set, FollowPlans}
use Rattle.setphase_core.proofs.Called.{no_plans}
use Rattle.agent_core.specs.Buffered.{Buffered}
use Rattle.agent_core.specs.Lacking.{LacksNameOf}
use Rattle.agent_core.specs.Denying.{denied_in}
use Rattle.agent_core.specs.Replies.{reply_within_limit, refusal_reply, kind_reply}
use Rattle.agent_core.specs.Sets.{SetStep, SetAnswer, is_too_long, too_long_reply, no_notes, set_answer, set_reply, set_step, settled_world, settling_bpdus, untested_step, tested_step, tested_step_by, IsReportedOf, IsDenied, TakesPlaces, TakesInSet, TakesInSetBy, MayFailInSet, set_calls}
use Rattle.agent_core.specs.Answers.{calls_by, calls_in_view, request_calls, replied, Step, shown_of, outcome_by, outcome_of, unnamed_outcome, unnamed_outcome_by, RequestNotes, met_by, unnamed_reported, MayLackName, IsRead, world_by, world_after, with_count_of, drop_audit, reply_audit, step_of, step_by, reading_step, allowed_step, writing_step, IsSent, IsAnswered, IsDone, IsReported, IsShort, IsStep, MayHave, MayFailBy, MayFailInView, TakesInView, notes_reported, without_answer}
use Rattle.agent_core.specs.declared.answered.Answered.{Answered}
use Rattle.agent_core.specs.declared.answered.Answered.TheVariants as answered
use Rattle.agent_core.specs.declared.sent_reply.SentReply.{SentReply}
use Rattle.agent_core.specs.declared.sets.SetReported.{SetReported}

-- ---- a Set

-- the audit of a Set as it is reported
abbrev pub reported_audit : Request → AccessKey → List ℕ → SentReply → List Denied → List Key → Audit
reported_audit request row view sent denied unrestored =
    record { kind = request.kind; status = sent.status; index = sent.index; decision = Allowed row view; denied = denied; unrestored = unrestored }

audit_same : (request : Request) (row : AccessKey) (view : List ℕ) (set : SetStep) (sent : SentReply) (denied : List Denied) (unrestored : List Key)
    → sent.status ≡ set.reply.status → sent.index ≡ set.reply.index → denied ≡ set.denied → unrestored ≡ set.unrestored
    → reported_audit request row view sent denied unrestored ≡ reply_audit request (Allowed row view) set.denied set.unrestored set.reply
audit_same request row view set sent denied unrestored s n d u i =
    record { kind = request.kind; status = s i; index = n i; decision = Allowed row view; denied = d i; unrestored = u i }

pub done_of : (request : Request) (row : AccessKey) (view : List ℕ) (set : SetStep) (sent : SentReply) (denied : List Denied) (unrestored : List Key) (failed : Option ℕ)
    (reported : Answered) (buffer : Buffered) (later : World) (objects : List ObjectState)
    → reported ≡ answered.Reply sent.length (reported_audit request row view sent denied unrestored) failed
    → IsSent set.reply sent buffer.reply → denied ≡ set.denied → unrestored ≡ set.unrestored
    → buffer.bpdus ≡ set.bpdus → later ≡ set.world → objects ≡ set.objects
    → IsDone (writing_step request row view set) reported buffer later objects
done_of request row view set sent denied unrestored failed reported buffer later objects e s d u b w o =
    record {
      answer = subst (λ (t : Answered). IsAnswered (writing_step request row view set).outcome t buffer) (sym e)
          (s.octets, s.len, audit_same request row view set sent denied unrestored s.status s.index d u);
      world = w;
      objects_after = o;
      bpdus = b;
    }

notes_are : (reported : Answered) (len : ℕ) (audit : Audit) (failed : Option ℕ) (notes : SetNotes) → reported ≡ answered.Reply len audit failed
    → failed ≡ notes.commit → audit.unrestored ≡ notes.undos → notes_reported reported ≡ notes
notes_are reported len audit failed notes e f u = ap notes_reported e ∙ (λ i. record { commit = f i; undos = u i })

too_long_step : (objects : List ObjectState) (world : World) (view : List ℕ) (request : Request) (notes : SetNotes) → is_too_long request ≡ true
    → set_step objects world view request notes ≡ untested_step objects world request
unfolding set_step
too_long_step objects world view request notes e = rw e refl

fitting_step : (objects : List ObjectState) (world : World) (view : List ℕ) (request : Request) (notes : SetNotes) → is_too_long request ≡ false
    → set_step objects world view request notes ≡ tested_step objects world view request notes
unfolding set_step
fitting_step objects world view request notes e = rw e refl

pub too_long_plans : (objects : List ObjectState) (world : World) (view : List ℕ) (request : Request) (notes : SetNotes) → is_too_long request ≡ true
    → FollowPlans (set_calls (rows_of objects) world view request notes) objects
unfolding set_calls
too_long_plans objects world view request notes e = rw e (no_plans objects)

pub fitting_plans : (objects : List ObjectState) (world : World) (view : List ℕ) (request : Request) (notes reported : SetNotes) → is_too_long request ≡ false → reported ≡ notes
    → FollowPlans (calls_of (refusal_of (rows_of objects) world view request.bindings) (writings (rows_of objects) world request.bindings) notes) objects
    → FollowPlans (set_calls (rows_of objects) world view request reported) objects
unfolding set_calls
fitting_plans objects world view request notes reported e t p =
    rw e (subst (λ (ns : SetNotes). FollowPlans (calls_of (refusal_of (rows_of objects) world view request.bindings) (writings (rows_of objects) world request.bindings) ns) objects) (sym t) p)

pub too_long_done : (objects : List ObjectState) (world : World) (request : Request) (row : AccessKey) (view : List ℕ) (sent : SentReply) (reported : Answered) (buffer : Buffered)
    → is_too_long request ≡ true → IsSent (too_long_reply request) sent buffer.reply → buffer.bpdus ≡ []
    → reported ≡ answered.Reply sent.length (reported_audit request row view sent [] []) None
    → IsDone (writing_step request row view (set_step objects world view request (notes_reported reported))) reported buffer world objects
too_long_done objects world request row view sent reported buffer e s b t =
    subst (λ (set : SetStep). IsDone (writing_step request row view set) reported buffer world objects) (sym (too_long_step objects world view request (notes_reported reported) e))
    (done_of request row view (untested_step objects world request) sent [] [] None reported buffer world objects t s refl refl b refl refl)

sent_as : (request : Request) (answer : SetAnswer) (status : ErrorStatus) (index : ℤ) (sent : SentReply) (octets : List ℕ) → status ≡ answer.status → index ≡ pos answer.index
    → IsSent (reply_within_limit (answer_to request status index request.bindings)) sent octets → IsSent (set_reply request answer) sent octets
sent_as request answer status index sent octets e f s =
    subst (λ (n : ℤ). IsSent (reply_within_limit (answer_to request answer.status n request.bindings)) sent octets) f
    (subst (λ (x : ErrorStatus). IsSent (reply_within_limit (answer_to request x index request.bindings)) sent octets) e s)

pub notes_reported_of : (families : List FamilyRow) (outcome : SetOutcome) (answer : SetReported) (reported : Answered) (request : Request) (row : AccessKey) (view : List ℕ) (sent : SentReply)
    → IsReportedOf families outcome answer → reported ≡ answered.Reply sent.length (reported_audit request row view sent answer.denied answer.unrestored) answer.failed
    → notes_reported reported ≡ notes_in outcome
notes_reported_of families outcome answer reported request row view sent t e =
    notes_are reported sent.length (reported_audit request row view sent answer.denied answer.unrestored) answer.failed (notes_in outcome) e t.failed_commit t.unrestored

-- Only what is reported of a refusal names families.
reported_before : (families kept : List FamilyRow) (outcome : SetOutcome) (answer : SetReported) → IfSome (refusal_in outcome) (λ r. families ≡ kept)
    → IsReportedOf families outcome answer → IsReportedOf kept outcome answer
reported_before families kept (ended.Refused refusal) answer e t = subst (λ (rows : List FamilyRow). IsReportedOf rows (ended.Refused refusal) answer) e t
reported_before families kept (ended.Done changed) answer e t = record { status = t.status; index = t.index; denied = t.denied; failed_commit = t.failed_commit; unrestored = t.unrestored }
reported_before families kept (ended.CommitFailed i) answer e t = record { status = t.status; index = t.index; denied = t.denied; failed_commit = t.failed_commit; unrestored = t.unrestored }
reported_before families kept (ended.UndoFailed i keys) answer e t = record { status = t.status; index = t.index; denied = t.denied; failed_commit = t.failed_commit; unrestored = t.unrestored }

pub set_done : (objects : List ObjectState) (world : World) (request : Request) (row : AccessKey) (view : List ℕ) (outcome : SetOutcome) (answer : SetReported) (sent : SentReply)
    (buffer : Buffered) (after later : World) (objects_later : List ObjectState) (reported : Answered) (families : List FamilyRow)
    → is_too_long request ≡ false
    → refusal_in outcome ≡ refusal_of (rows_of objects) world view request.bindings
    → after ≡ world_after_set (refusal_in outcome) (writings (rows_of objects) world request.bindings) world (notes_in outcome)
    → IfSome (refusal_in outcome) (λ r. families ≡ world.policy.vacm.families)
    → IsReportedOf families outcome answer
    → later ≡ settled_world world after
    → buffer.bpdus ≡ settling_bpdus world after
    → IsSent (reply_within_limit (answer_to request answer.status answer.index request.bindings)) sent buffer.reply
    → objects_later ≡ map (object_after_set (calls_of (refusal_in outcome) (writings (rows_of objects) world request.bindings) (notes_in outcome))) objects
    → reported ≡ answered.Reply sent.length (reported_audit request row view sent answer.denied answer.unrestored) answer.failed
    → IsDone (writing_step request row view (set_step objects world view request (notes_reported reported))) reported buffer later objects_later
set_done objects world request row view outcome answer sent buffer after later objects_later reported families fits refusal after_is families_are t later_is bpdus_are s objects_are reported_is =
    let ws : List NamedAssignment = writings (rows_of objects) world request.bindings in
    let kept : List FamilyRow = world.policy.vacm.families in
    let notes : SetNotes = notes_in outcome in
    let by : Option SetRefusal → SetStep = λ (r : Option SetRefusal). tested_step_by objects world request notes (set_answer kept r notes) (world_after_set r ws world notes) (calls_of r ws notes) in
    let is : IsReportedOf kept outcome answer = reported_before families kept outcome answer families_are t in
    let main : IsDone (writing_step request row view (by (refusal_in outcome))) reported buffer later objects_later =
    done_of request row view (by (refusal_in outcome)) sent answer.denied answer.unrestored answer.failed reported buffer later objects_later reported_is
    (sent_as request (set_answer kept (refusal_in outcome) notes) answer.status answer.index sent buffer.reply is.status is.index s) is.denied is.unrestored
    (bpdus_are ∙ ap (settling_bpdus world) after_is) (later_is ∙ ap (settled_world world) after_is) objects_are in
    subst (λ (ns : SetNotes). IsDone (writing_step request row view (set_step objects world view request ns)) reported buffer later objects_later)
    (sym (notes_reported_of families outcome answer reported request row view sent t reported_is))
    (subst (λ (set : SetStep). IsDone (writing_step request row view set) reported buffer later objects_later) (sym (fitting_step objects world view request notes fits))
    (subst (λ (r : Option SetRefusal). IsDone (writing_step request row view (by r)) reported buffer later objects_later) refusal main))

-- ---- the steps of a request

-- a request that writes nothing, by the decision on it
module _ (objects : List ObjectState) (world : World) (request : Request) (decision : Decision) (d : decision_on world.policy request ≡ decision) where
  read_by : (reported : Answered) (buffer : Buffered) (later : World) → IsAnswered (outcome_by (shown_of (rows_of objects) world) request decision) reported buffer
      → later ≡ world_by world decision → buffer.bpdus ≡ [] → IsDone (reading_step objects world request None) reported buffer later objects
  unfolding outcome_of world_after
  read_by reported buffer later a l b = record {
    answer = subst (λ (x : Decision). IsAnswered (outcome_by (shown_of (rows_of objects) world) request x) reported buffer) (sym d) a;
    world = l ∙ ap (world_by world) (sym d);
    objects_after = refl;
    bpdus = b;
  }

  reported_by : (later_objects : List ObjectState) (reported : Answered) (buffer : Buffered) (later : World) → MayFailBy (rows_of objects) world request (met_by reported) decision
      → FollowPlans (calls_by (rows_of objects) world request (notes_reported reported) decision) objects
      → IsDone (step_by objects world request (met_by reported) decision) reported buffer later later_objects
      → IsReported objects world request reported buffer later later_objects
  unfolding MayHave step_of request_calls
  reported_by later_objects reported buffer later m p e = record {
    may = subst (λ (x : Decision). MayFailBy (rows_of objects) world request (met_by reported) x) (sym d) m;
    by_plan = subst (λ (x : Decision). FollowPlans (calls_by (rows_of objects) world request (notes_reported reported) x) objects) (sym d) p;
    done = subst (λ (x : Decision). IsDone (step_by objects world request (met_by reported) x) reported buffer later later_objects) (sym d) e;
  }

pub dropped_step : (objects : List ObjectState) (world later : World) (request : Request) (cause : Cause) (reported : Answered) (buffer : Buffered)
    → decision_on world.policy request ≡ Drop cause → reported ≡ answered.NoReply (drop_audit request cause) → buffer.reply ≡ [] → buffer.bpdus ≡ [] → later ≡ with_count_of world cause
    → IsReported objects world request reported buffer later objects
dropped_step objects world later request cause reported buffer d t e b l =
    let is : Answered = answered.NoReply (drop_audit request cause) in
    subst (λ (x : Answered). IsReported objects world request x buffer later objects) (sym t)
    (reported_by objects world request (Drop cause) d objects is buffer later refl (no_plans objects) (read_by objects world request (Drop cause) d is buffer later (e, refl) l b))

-- what is reported of a request that reads
abbrev plain_reported : Request → Decision → SentReply → Answered
plain_reported request decision sent =
    answered.Reply sent.length (record { kind = request.kind; status = sent.status; index = sent.index; decision = decision; denied = []; unrestored = [] }) None

sent_step : (request : Request) (decision : Decision) (reply : Reply) (sent : SentReply) (buffer : Buffered) → IsSent reply sent buffer.reply
    → IsAnswered (replied reply (reply_audit request decision [] [] reply)) (plain_reported request decision sent) buffer
sent_step request decision reply sent buffer s =
    (s.octets, s.len, λ i. record { kind = request.kind; status = s.status i; index = s.index i; decision = decision; denied = []; unrestored = [] })

pub empty_step : (objects : List ObjectState) (world : World) (request : Request) (sent : SentReply) (reported : Answered) (buffer : Buffered)
    → decision_on world.policy request ≡ Empty → IsSent (reply_within_limit (answer_to request NoError (pos 0) [])) sent buffer.reply → buffer.bpdus ≡ []
    → reported ≡ plain_reported request Empty sent → IsReported objects world request reported buffer world objects
empty_step objects world request sent reported buffer d s b t =
    let is : Answered = plain_reported request Empty sent in
    subst (λ (x : Answered). IsReported objects world request x buffer world objects) (sym t)
    (reported_by objects world request Empty d objects is buffer world refl (no_plans objects) (read_by objects world request Empty d is buffer world (sent_step request Empty _ sent buffer s) refl b))

pub refused_step : (objects : List ObjectState) (world : World) (request : Request) (why : Why) (sent : SentReply) (reported : Answered) (buffer : Buffered)
    → decision_on world.policy request ≡ Refused why → IsSent (refusal_reply request) sent buffer.reply → buffer.bpdus ≡ []
    → reported ≡ plain_reported request (Refused why) sent → IsReported objects world request reported buffer world objects
refused_step objects world request why sent reported buffer d s b t =
    let is : Answered = plain_reported request (Refused why) sent in
    subst (λ (x : Answered). IsReported objects world request x buffer world objects) (sym t)
    (reported_by objects world request (Refused why) d objects is buffer world refl (no_plans objects) (read_by objects world request (Refused why) d is buffer world (sent_step request (Refused why) _ sent buffer s) refl b))

pub set_reported : (objects later_objects : List ObjectState) (world later : World) (request : Request) (row : AccessKey) (view : List ℕ) (reported : Answered) (buffer : Buffered)
    → decision_on world.policy request ≡ Allowed row view → request.kind ≡ Set
    → MayFailInSet (rows_of objects) world view request (notes_reported reported)
    → FollowPlans (set_calls (rows_of objects) world view request (notes_reported reported)) objects
    → IsDone (writing_step request row view (set_step objects world view request (notes_reported reported))) reported buffer later later_objects
    → unnamed_reported reported ≡ None
    → IsReported objects world request reported buffer later later_objects
set_reported objects later_objects world later request row view reported buffer d k m p e n =
    reported_by objects world request (Allowed row view) d later_objects reported buffer later
    (record {
      devices = subst (λ (kind : Kind). MayFailInView (rows_of objects) world view request (notes_reported reported) kind) (sym k) m;
      unnamed = subst (λ (o : Option ℕ). MayLackName (rows_of objects) world view request request.kind o) (sym n) tt;
    })
    (subst (λ (kind : Kind). FollowPlans (calls_in_view (rows_of objects) world view request (notes_reported reported) kind) objects) (sym k) p)
    (subst (λ (kind : Kind). IsDone (allowed_step objects world request (met_by reported) row view kind) reported buffer later later_objects) (sym k) e)

pub set_short : (objects later_objects : List ObjectState) (world later : World) (request : Request) (row : AccessKey) (view : List ℕ) (buffer : Buffered)
    → decision_on world.policy request ≡ Allowed row view → request.kind ≡ Set → length request.community ≤ MAX_COMMUNITY
    → TakesInSet (rows_of objects) world view request → buffer.reply ≡ [] → buffer.bpdus ≡ [] → later ≡ world → later_objects ≡ map object_after_release objects
    → IsShort objects world request buffer later later_objects
set_short objects later_objects world later request row view buffer d k c t e b w o =
    record {
      empty = e;
      silent = b;
      unchanged = w;
      kept = o ∙ ap (λ (kind : Kind). without_answer kind objects) (sym k);
      takes = record { row = row; view = view; allowed = d; takes = subst (λ (kind : Kind). TakesInView (rows_of objects) world view request kind) (sym k) t };
      community = c;
    }

pub set_stepped : (objects later_objects : List ObjectState) (world later : World) (request : Request) (row : AccessKey) (view : List ℕ) (r : Result Answered AllocError) (buffer : Buffered)
    → decision_on world.policy request ≡ Allowed row view → request.kind ≡ Set → length request.community ≤ MAX_COMMUNITY
    → IfOk r (λ reported. MayFailInSet (rows_of objects) world view request (notes_reported reported))
    → IfOk r (λ reported. FollowPlans (set_calls (rows_of objects) world view request (notes_reported reported)) objects)
    → IfOk r (λ reported. IsDone (writing_step request row view (set_step objects world view request (notes_reported reported))) reported buffer later later_objects)
    → IfOk r (λ reported. unnamed_reported reported ≡ None)
    → OnErr r (TakesInSet (rows_of objects) world view request) → OnErr r (buffer.reply ≡ []) → OnErr r (buffer.bpdus ≡ [])
    → OnErr r (later ≡ world) → OnErr r (later_objects ≡ map object_after_release objects)
    → IsStep objects world request r buffer later later_objects
set_stepped objects later_objects world later request row view (Ok reported) buffer d k c m p e n t x b w o =
    set_reported objects later_objects world later request row view reported buffer d k m p e n
set_stepped objects later_objects world later request row view (Err err) buffer d k c m p e n t x b w o =
    set_short objects later_objects world later request row view buffer d k c t x b w o

-- a request that reads
reads : (objects : List ObjectState) (world : World) (request : Request) (notes : RequestNotes) (row : AccessKey) (view : List ℕ) (kind : Kind) → kind ≢ Set
    → reading_step objects world request notes.unnamed ≡ allowed_step objects world request notes row view kind
reads objects world request notes row view Get h = refl
reads objects world request notes row view GetNext h = refl
reads objects world request notes row view GetBulk h = refl
reads objects world request notes row view Set h = absurd (h refl)

read_may : (rows : List ObjectRow) (world : World) (request : Request) (row : AccessKey) (view : List ℕ) (notes : SetNotes) (kind : Kind) → kind ≢ Set → notes ≡ no_notes
    → MayFailInView rows world view request notes kind
read_may rows world request row view notes Get h e = e
read_may rows world request row view notes GetNext h e = e
read_may rows world request row view notes GetBulk h e = e
read_may rows world request row view notes Set h e = absurd (h refl)

read_plans : (objects : List ObjectState) (world : World) (request : Request) (view : List ℕ) (notes : SetNotes) (kind : Kind) → kind ≢ Set
    → FollowPlans (calls_in_view (rows_of objects) world view request notes kind) objects
read_plans objects world request view notes Get h = no_plans objects
read_plans objects world request view notes GetNext h = no_plans objects
read_plans objects world request view notes GetBulk h = no_plans objects
read_plans objects world request view notes Set h = absurd (h refl)

read_takes : (rows : List ObjectRow) (world : World) (view : List ℕ) (request : Request) (kind : Kind) → kind ≢ Set → TakesInView rows world view request kind
read_takes rows world view request Get h = tt
read_takes rows world view request GetNext h = tt
read_takes rows world view request GetBulk h = tt
read_takes rows world view request Set h = absurd (h refl)

read_keeps : (objects : List ObjectState) (kind : Kind) → kind ≢ Set → objects ≡ without_answer kind objects
read_keeps objects Get h = refl
read_keeps objects GetNext h = refl
read_keeps objects GetBulk h = refl
read_keeps objects Set h = absurd (h refl)

module _ (objects : List ObjectState) (world : World) (request : Request) (row : AccessKey) (view : List ℕ) (buffer : Buffered)
    (d : decision_on world.policy request ≡ Allowed row view) (k : request.kind ≢ Set) (b : buffer.bpdus ≡ []) where
  abbrev reply : Reply
  reply = kind_reply (prefixes_of (rows_of objects)) (in_view world.policy.vacm.families view) (instances (rows_of objects) world) request request.kind

  abbrev denied : List Denied
  denied = denied_in world.policy.vacm.families view request request.kind

  abbrev lacks : ℕ → Type 0
  lacks = LacksNameOf (in_view world.policy.vacm.families view) (instances (rows_of objects) world) request request.kind

  -- what is reported of it
  abbrev IsReadReply : Answered → Type 0
  IsReadReply reported = IsRead reply request (Allowed row view) denied lacks reported buffer.reply

  unnamed_by : (i : ℕ) (reported : Answered) → IsAnswered (unnamed_outcome_by (shown_of (rows_of objects) world) request i (Allowed row view)) reported buffer
      → IsDone (reading_step objects world request (Some i)) reported buffer world objects
  unfolding unnamed_outcome world_after
  unnamed_by i reported a = record {
    answer = subst (λ (x : Decision). IsAnswered (unnamed_outcome_by (shown_of (rows_of objects) world) request i x) reported buffer) (sym d) a;
    world = ap (world_by world) (sym d);
    objects_after = refl;
    bpdus = b;
  }

  read_done : (reported : Answered) → IsReadReply reported → IsDone (reading_step objects world request (unnamed_reported reported)) reported buffer world objects
  read_done (answered.Reply len reported failed) h =
      read_by objects world request (Allowed row view) d (answered.Reply len reported failed) buffer world (h.0, h.1, h.2) refl b
  read_done (answered.Unnamed len reported i) h = unnamed_by i (answered.Unnamed len reported i) (h.0, h.1, h.2)
  read_done (answered.NoReply reported) h = absurd h

  no_note : (reported : Answered) → IsReadReply reported → notes_reported reported ≡ no_notes
  no_note (answered.Reply len reported failed) h = λ i. record { commit = h.3 i; undos = (h.2 i).unrestored }
  no_note (answered.Unnamed len reported i) h = refl
  no_note (answered.NoReply reported) h = absurd h

  may_lack : (reported : Answered) → IsReadReply reported → MayLackName (rows_of objects) world view request request.kind (unnamed_reported reported)
  may_lack (answered.Reply len reported failed) h = tt
  may_lack (answered.Unnamed len reported i) h = h.3
  may_lack (answered.NoReply reported) h = absurd h

  read_reported : (reported : Answered) → IsReadReply reported → IsReported objects world request reported buffer world objects
  read_reported reported h =
      reported_by objects world request (Allowed row view) d objects reported buffer world
      (record {
        devices = read_may (rows_of objects) world request row view (notes_reported reported) request.kind k (no_note reported h);
        unnamed = may_lack reported h;
      })
      (read_plans objects world request view (notes_reported reported) request.kind k)
      (subst (λ (step : Step). IsDone step reported buffer world objects) (reads objects world request (met_by reported) row view request.kind k) (read_done reported h))

  pub read_stepped : (r : Result Answered AllocError) → length request.community ≤ MAX_COMMUNITY
      → IfOk r IsReadReply → OnErr r (buffer.reply ≡ [])
      → IsStep objects world request r buffer world objects
  read_stepped (Ok reported) c h e = read_reported reported h
  read_stepped (Err err) c h e = record {
    empty = e;
    silent = b;
    unchanged = refl;
    kept = read_keeps objects request.kind k;
    takes = record { row = row; view = view; allowed = d; takes = read_takes (rows_of objects) world view request request.kind k };
    community = c;
  }

-- Want of memory for the static rows of a Set is one of a Set that may take some.
pub short_set : (rows : List ObjectRow) (world : World) (view : List ℕ) (request : Request) → is_too_long request ≡ false →
    refusal_of rows world view request.bindings ≡ None → TakesPlaces world (writings rows world request.bindings) →
    TakesInSet rows world view request
short_set rows world view request fits accepted some = record {
  fits = fits;
  takes = subst (λ (o : Option SetRefusal). TakesInSetBy o world (writings rows world request.bindings)) (sym accepted) some;
}

-- So is want of memory for the audit of a variable to which the view gives no access.
denied_takes : (o : Option SetRefusal) (world : World) (ws : List NamedAssignment) → IsDenied o → TakesInSetBy o world ws
denied_takes (Some refusal) world ws denied = denied
denied_takes None world ws denied = absurd denied

pub short_audit : (rows : List ObjectRow) (world : World) (view : List ℕ) (request : Request) (refusal : Option SetRefusal) → is_too_long request ≡ false →
    refusal ≡ refusal_of rows world view request.bindings → IsDenied refusal → TakesInSet rows world view request
short_audit rows world view request refusal fits is denied = record {
  fits = fits;
  takes = subst (λ (o : Option SetRefusal). TakesInSetBy o world (writings rows world request.bindings)) is (denied_takes refusal world (writings rows world request.bindings) denied);
}
