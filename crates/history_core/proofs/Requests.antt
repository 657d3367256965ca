-- The outcome of an answered request is its step.
use Rattle.std.proofs.Common.{◌≡◌, ◌≢◌, ◌∙◌, ◌<◌, arith, length, ℕ, Bool, true, false, List, [], Option, Some, None, Result, Ok, Err, OnErr, ap, refl, sym, subst}
use Rattle.std.specs.Prelude.{unwrap_or}
use Rattle.std.specs.Result.{OnOk}
use Rattle.std.specs.declared.alloc.AllocError.{AllocError}
use Rattle.message_core.specs.declared.request.Kind.{Kind}
use Rattle.message_core.specs.declared.request.Kind.TheVariants.{Get, GetNext, GetBulk, Set}
use Rattle.message_core.specs.declared.request.Request.{Request}
use Rattle.audit_core.specs.declared.audit.Audit.{Audit}
use Rattle.decision.specs.Deciding.{decision_on}
use Rattle.decision.specs.declared.keys.AccessKey.{AccessKey}
use Rattle.decision.specs.declared.choice.Decision.{Decision}
use Rattle.decision.specs.declared.choice.Decision.TheVariants.{Drop, Empty, Refused, Allowed}
use Rattle.setphase_core.specs.declared.world.World.{World}
use Rattle.setphase_core.specs.Objects.{ObjectRow, ObjectState}
use Rattle.setphase_core.specs.Registry.{rows_of}
use Rattle.setphase_core.specs.Outcomes.{SetNotes}
use Rattle.agent_core.specs.Buffered.{Buffered}
use Rattle.agent_core.specs.Sets.{no_notes}
use Rattle.agent_core.specs.Answers as answers
use Rattle.agent_core.specs.Answers.{Outcome, dropped, replied, audit_in, RequestNotes, nothing_met, met_by, unnamed_reported, MayLackName, unnamed_outcome, unnamed_outcome_by, Shown, shown_of, outcome_of, outcome_by, reading_step, allowed_step, step_by, IsAnswered, IsReported, IsShort, MayFailInView, MayFailBy, MayHave, without_answer, notes_reported}
use Rattle.agent_core.specs.declared.answered.Answered.{Answered}
use Rattle.agent_core.specs.declared.answered.Answered.TheVariants as answered
use Rattle.history_core.specs.Steps.{Notes, step_of, octets_in, AreAtRest}
use Rattle.history_core.specs.Happening.{audit_reported, happened_by, HappensBy, Happens, notes_in}
use Rattle.history_core.specs.declared.event.Event.TheVariants as event
use Rattle.history_core.specs.declared.happening.EventOutcome.{EventOutcome}
use Rattle.history_core.proofs.Stepping.{denied_stays, replied_stays, released-at_rest}

-- What came of a request whose outcome this is.
record ComesOf (o : Outcome) (h : EventOutcome) (b : Buffered) : Type 0 where
  egress : h.egress ≡ []
  reply : h.reply ≡ octets_in o
  same_reply : h.reported_reply ≡ octets_in o
  sent : b.reply ≡ unwrap_or (octets_in o) []
  audit : h.audit ≡ Some (audit_in o)
  same_audit : h.reported_audit ≡ Some (audit_in o)

some_audit : (a b : Audit) → a ≡ b → Some a ≡ Some b
some_audit a b e = ap (λ (x : Audit). Some x) e

comes_of : (o : Outcome) (reported : Answered) (b : Buffered) → IsAnswered o reported b → ComesOf o (happened_by reported b.reply) b
comes_of (dropped cause own) (answered.Reply len audit failed) b h = absurd h
comes_of (dropped cause own) (answered.Unnamed len audit i) b h = absurd h
comes_of (dropped cause own) (answered.NoReply audit) b h =
    let same = some_audit audit own h.1 in
    record { egress = refl; reply = refl; same_reply = refl; sent = h.0; audit = same; same_audit = same }
comes_of (replied reply own) (answered.Reply len audit failed) b h =
    let octets = ap (λ (x : List ℕ). Some x) h.0 in
    let same = some_audit audit own h.2 in
    record { egress = refl; reply = octets; same_reply = octets; sent = h.0; audit = same; same_audit = same }
comes_of (replied reply own) (answered.Unnamed len audit i) b h =
    let octets = ap (λ (x : List ℕ). Some x) h.0 in
    let same = some_audit audit own h.2 in
    record { egress = refl; reply = octets; same_reply = octets; sent = h.0; audit = same; same_audit = same }
comes_of (replied reply own) (answered.NoReply audit) b h = absurd h

audit_is : (o : Outcome) (reported : Answered) (b : Buffered) → IsAnswered o reported b → audit_reported reported ≡ audit_in o
audit_is (dropped cause own) (answered.Reply len audit failed) b h = absurd h
audit_is (dropped cause own) (answered.Unnamed len audit i) b h = absurd h
audit_is (dropped cause own) (answered.NoReply audit) b h = h.1
audit_is (replied reply own) (answered.Reply len audit failed) b h = h.2
audit_is (replied reply own) (answered.Unnamed len audit i) b h = h.2
audit_is (replied reply own) (answered.NoReply audit) b h = absurd h

-- ---- a request that is dropped undoes nothing

reading_undoes_none : (shown : Shown) (r : Request) (d : Decision) (audit : Audit) (b : Buffered)
    → IsAnswered (outcome_by shown r d) (answered.NoReply audit) b → audit.unrestored ≡ []
reading_undoes_none shown r (Drop cause) audit b h = ap (λ (a : Audit). a.unrestored) h.1
reading_undoes_none shown r Empty audit b h = absurd h
reading_undoes_none shown r (Refused why) audit b h = absurd h
reading_undoes_none shown r (Allowed row view) audit b h = absurd h

unnamed_undoes_none : (shown : Shown) (r : Request) (i : ℕ) (d : Decision) (audit : Audit) (b : Buffered)
    → IsAnswered (unnamed_outcome_by shown r i d) (answered.NoReply audit) b → audit.unrestored ≡ []
unnamed_undoes_none shown r i (Drop cause) audit b h = ap (λ (a : Audit). a.unrestored) h.1
unnamed_undoes_none shown r i Empty audit b h = absurd h
unnamed_undoes_none shown r i (Refused why) audit b h = absurd h
unnamed_undoes_none shown r i (Allowed row view) audit b h = absurd h

reads_undo_none : (os : List ObjectState) (w : World) (r : Request) (u : Option ℕ) (audit : Audit) (b : Buffered)
    → IsAnswered (reading_step os w r u).outcome (answered.NoReply audit) b → audit.unrestored ≡ []
unfolding outcome_of unnamed_outcome
reads_undo_none os w r None audit b h = reading_undoes_none (shown_of (rows_of os) w) r (decision_on w.policy r) audit b h
reads_undo_none os w r (Some i) audit b h = unnamed_undoes_none (shown_of (rows_of os) w) r i (decision_on w.policy r) audit b h

allowed_undo_none : (os : List ObjectState) (w : World) (r : Request) (n : RequestNotes) (row : AccessKey) (view : List ℕ) (kind : Kind) (audit : Audit) (b : Buffered)
    → IsAnswered (allowed_step os w r n row view kind).outcome (answered.NoReply audit) b → audit.unrestored ≡ []
allowed_undo_none os w r n row view Get audit b h = reads_undo_none os w r n.unnamed audit b h
allowed_undo_none os w r n row view GetNext audit b h = reads_undo_none os w r n.unnamed audit b h
allowed_undo_none os w r n row view GetBulk audit b h = reads_undo_none os w r n.unnamed audit b h
allowed_undo_none os w r n row view Set audit b h = absurd h

undo_none_by : (os : List ObjectState) (w : World) (r : Request) (n : RequestNotes) (d : Decision) (audit : Audit) (b : Buffered)
    → IsAnswered (step_by os w r n d).outcome (answered.NoReply audit) b → audit.unrestored ≡ []
undo_none_by os w r n (Drop cause) audit b h = reads_undo_none os w r None audit b h
undo_none_by os w r n Empty audit b h = reads_undo_none os w r None audit b h
undo_none_by os w r n (Refused why) audit b h = reads_undo_none os w r None audit b h
undo_none_by os w r n (Allowed row view) audit b h = allowed_undo_none os w r n row view r.kind audit b h

undo_none : (os : List ObjectState) (w : World) (r : Request) (n : RequestNotes) (audit : Audit) (b : Buffered)
    → IsAnswered (answers.step_of os w r n).outcome (answered.NoReply audit) b → audit.unrestored ≡ []
unfolding answers.step_of
undo_none os w r n audit b h = undo_none_by os w r n (decision_on w.policy r) audit b h

-- ---- no request but a Set undoes anything

in_view_meets_none : (rows : List ObjectRow) (w : World) (view : List ℕ) (r : Request) (n : SetNotes) (kind : Kind)
    → kind ≢ Set → MayFailInView rows w view r n kind → n ≡ no_notes
in_view_meets_none rows w view r n Get reads may = may
in_view_meets_none rows w view r n GetNext reads may = may
in_view_meets_none rows w view r n GetBulk reads may = may
in_view_meets_none rows w view r n Set reads may = absurd (reads refl)

meets_none_by : (rows : List ObjectRow) (w : World) (r : Request) (n : RequestNotes) (d : Decision) → r.kind ≢ Set → MayFailBy rows w r n d → n.devices ≡ no_notes
meets_none_by rows w r n (Drop cause) reads may = ap (λ (x : RequestNotes). x.devices) may
meets_none_by rows w r n Empty reads may = ap (λ (x : RequestNotes). x.devices) may
meets_none_by rows w r n (Refused why) reads may = ap (λ (x : RequestNotes). x.devices) may
meets_none_by rows w r n (Allowed row view) reads may = in_view_meets_none rows w view r n.devices r.kind reads may.devices

meets_none : (rows : List ObjectRow) (w : World) (r : Request) (n : RequestNotes) → r.kind ≢ Set → MayHave rows w r n → n.devices ≡ no_notes
unfolding MayHave
meets_none rows w r n reads may = meets_none_by rows w r n (decision_on w.policy r) reads may

-- Where there was no memory for a name, the request reads, and undoes nothing.
unnamed_in_view : (os : List ObjectState) (w : World) (r : Request) (row : AccessKey) (view : List ℕ) (kind : Kind) (audit : Audit) (len i : ℕ) (b : Buffered)
    → decision_on w.policy r ≡ Allowed row view → MayLackName (rows_of os) w view r kind (Some i)
    → IsAnswered (allowed_step os w r (met_by (answered.Unnamed len audit i)) row view kind).outcome (answered.Unnamed len audit i) b → audit.unrestored ≡ []
unfolding unnamed_outcome
unnamed_in_view os w r row view Get audit len i b d may h = absurd may
unnamed_in_view os w r row view GetNext audit len i b d may h =
    let here = subst (λ (x : Decision). IsAnswered (unnamed_outcome_by (shown_of (rows_of os) w) r i x) (answered.Unnamed len audit i) b) d h in
    ap (λ (a : Audit). a.unrestored) here.2
unnamed_in_view os w r row view GetBulk audit len i b d may h =
    let here = subst (λ (x : Decision). IsAnswered (unnamed_outcome_by (shown_of (rows_of os) w) r i x) (answered.Unnamed len audit i) b) d h in
    ap (λ (a : Audit). a.unrestored) here.2
unnamed_in_view os w r row view Set audit len i b d may h = absurd may

unnamed_by : (os : List ObjectState) (w : World) (r : Request) (d : Decision) (audit : Audit) (len i : ℕ) (b : Buffered)
    → decision_on w.policy r ≡ d → MayFailBy (rows_of os) w r (met_by (answered.Unnamed len audit i)) d
    → IsAnswered (step_by os w r (met_by (answered.Unnamed len audit i)) d).outcome (answered.Unnamed len audit i) b → audit.unrestored ≡ []
unnamed_by os w r (Drop cause) audit len i b d may h = absurd (cc (ap (λ (n : RequestNotes). n.unnamed) may))
unnamed_by os w r Empty audit len i b d may h = absurd (cc (ap (λ (n : RequestNotes). n.unnamed) may))
unnamed_by os w r (Refused why) audit len i b d may h = absurd (cc (ap (λ (n : RequestNotes). n.unnamed) may))
unnamed_by os w r (Allowed row view) audit len i b d may h = unnamed_in_view os w r row view r.kind audit len i b d may.unnamed h

pub unnamed_is_read : (os : List ObjectState) (w : World) (r : Request) (audit : Audit) (len i : ℕ) (b : Buffered)
    → MayHave (rows_of os) w r (met_by (answered.Unnamed len audit i))
    → IsAnswered (answers.step_of os w r (met_by (answered.Unnamed len audit i))).outcome (answered.Unnamed len audit i) b → audit.unrestored ≡ []
unfolding answers.step_of MayHave
unnamed_is_read os w r audit len i b may h = unnamed_by os w r (decision_on w.policy r) audit len i b refl may h

reported_undoes_none : (os : List ObjectState) (w : World) (r : Request) (reported : Answered) (b : Buffered)
    → notes_reported reported ≡ no_notes → MayHave (rows_of os) w r (met_by reported) → IsAnswered (answers.step_of os w r (met_by reported)).outcome reported b
    → (audit_reported reported).unrestored ≡ []
reported_undoes_none os w r (answered.Reply len audit failed) b none may h = ap (λ (n : SetNotes). n.undos) none
reported_undoes_none os w r (answered.Unnamed len audit i) b none may h = unnamed_is_read os w r audit len i b may h
reported_undoes_none os w r (answered.NoReply audit) b none may h = undo_none os w r nothing_met audit b h

abbrev IsSet : Kind → Type 0
IsSet Get = ⊥
IsSet GetNext = ⊥
IsSet GetBulk = ⊥
IsSet Set = Unit {0}

space_by : (kind : Kind) (space : Bool) → (kind ≡ Set → space ≡ true) → ((kind ≢ Set) → ⊥) → space ≡ true
space_by Get space given other = absurd (other (λ e. subst IsSet (sym e) tt))
space_by GetNext space given other = absurd (other (λ e. subst IsSet (sym e) tt))
space_by GetBulk space given other = absurd (other (λ e. subst IsSet (sym e) tt))
space_by Set space given other = given refl

-- Where a setting could not be restored there is space for it.
pub undone_has_space : (os : List ObjectState) (w : World) (r : Request) (reported : Answered) (b : Buffered) (later : World) (os_later : List ObjectState) (space : Bool)
    → IsReported os w r reported b later os_later → (r.kind ≡ Set → space ≡ true) → (audit_reported reported).unrestored ≢ [] → space ≡ true
undone_has_space os w r reported b later os_later space h given some =
    space_by r.kind space given (λ reads. some (reported_undoes_none os w r reported b (meets_none (rows_of os) w r (met_by reported) reads h.may) h.may h.done.answer))

-- ---- the outcome of an answered request

abbrev pub notes_by : Answered → Notes
notes_by reported = record { no_room = false; devices = notes_reported reported; unnamed = unnamed_reported reported }

reported_happens_by : (os : List ObjectState) (w : World) (r : Request) (reported : Answered) (b : Buffered) (later : World) (os_later : List ObjectState)
    → IsReported os w r reported b later os_later
    → HappensBy os w (event.Request r) (notes_by reported) (happened_by reported b.reply) os_later later b
unfolding step_of
reported_happens_by os w r reported b later os_later h =
    let t = comes_of _ reported b h.done.answer in
    record {
      may = (refl, h.may);
      by_plan = h.by_plan;
      world = h.done.world;
      objects_after = h.done.objects_after;
      egress = t.egress;
      reply = t.reply;
      same_reply = t.same_reply;
      sent = t.sent;
      audit = t.audit;
      same_audit = t.same_audit;
      bpdus = h.done.bpdus;
    }

-- what is noted of it is what was reported
same_notes : (os : List ObjectState) (w : World) (r : Request) (reported : Answered) (b : Buffered)
    → MayHave (rows_of os) w r (met_by reported) → IsAnswered (answers.step_of os w r (met_by reported)).outcome reported b
    → notes_by reported ≡ notes_in (happened_by reported b.reply)
same_notes os w r (answered.Reply len audit failed) b may h = refl
same_notes os w r (answered.Unnamed len audit number) b may h =
    let none = unnamed_is_read os w r audit len number b may h in
    λ i. record { no_room = false; devices = record { commit = None; undos = sym none i }; unnamed = Some number }
same_notes os w r (answered.NoReply audit) b may h =
    let none = undo_none os w r nothing_met audit b h in
    λ i. record { no_room = false; devices = record { commit = None; undos = sym none i }; unnamed = None }

-- An answered request is its step.
pub reported_happens : (os : List ObjectState) (w : World) (r : Request) (reported : Answered) (b : Buffered) (later : World) (os_later : List ObjectState)
    → IsReported os w r reported b later os_later → Happens os w (event.Request r) (happened_by reported b.reply) os_later later b
reported_happens os w r reported b later os_later h =
    subst (λ (n : Notes). HappensBy os w (event.Request r) n (happened_by reported b.reply) os_later later b)
    (same_notes os w r reported b h.may h.done.answer) (reported_happens_by os w r reported b later os_later h)

-- ---- where there was no memory nothing has changed

-- Where an audit names a denied variable nothing has changed.
pub reported_stays : (os : List ObjectState) (w : World) (r : Request) (reported : Answered) (b : Buffered) (later : World) (os_later : List ObjectState)
    → AreAtRest os → IsReported os w r reported b later os_later → (audit_reported reported).denied ≢ [] → (later ≡ w) × (os_later ≡ os)
reported_stays os w r reported b later os_later rest h some =
    let same = audit_is _ reported b h.done.answer in
    let stays = denied_stays os w r _ rest h.may (λ none. some (ap (λ (a : Audit). a.denied) same ∙ none)) in
    (h.done.world ∙ stays.world, h.done.objects_after ∙ stays.objects)

-- Where a request that is no Set has a reply nothing has changed.
pub read_stays : (os : List ObjectState) (w : World) (r : Request) (reported : Answered) (b : Buffered) (later : World) (os_later : List ObjectState)
    → IsReported os w r reported b later os_later → r.kind ≢ Set → b.reply ≢ [] → (later ≡ w) × (os_later ≡ os)
read_stays os w r reported b later os_later h reads some =
    let sent = (comes_of _ reported b h.done.answer).sent in
    let stays = replied_stays os w r _ reads (λ none. some (sent ∙ none)) in
    (h.done.world ∙ stays.world, h.done.objects_after ∙ stays.objects)

-- The same where its reply has more octets than some number.
pub long_read_stays : (os : List ObjectState) (w : World) (r : Request) (reported : Answered) (b : Buffered) (later : World) (os_later : List ObjectState) (reply : List ℕ) (n : ℕ)
    → IsReported os w r reported b later os_later → r.kind ≢ Set → reply ≡ b.reply → n < length reply → (later ≡ w) × (os_later ≡ os)
long_read_stays os w r reported b later os_later reply n h reads same long =
    read_stays os w r reported b later os_later h reads (λ none.
    let empty : length reply ≡ 0 = ap length (same ∙ none) in
    absurd (omega arith))

without_answer-at_rest : (kind : Kind) (os : List ObjectState) → AreAtRest os → without_answer kind os ≡ os
without_answer-at_rest Get os rest = refl
without_answer-at_rest GetNext os rest = refl
without_answer-at_rest GetBulk os rest = refl
without_answer-at_rest Set os rest = released-at_rest os rest

pub short_stays : (os : List ObjectState) (w : World) (r : Request) (b : Buffered) (later : World) (os_later : List ObjectState)
    → AreAtRest os → IsShort os w r b later os_later → (later ≡ w) × (os_later ≡ os)
short_stays os w r b later os_later rest h = (h.unchanged, h.kept ∙ without_answer-at_rest r.kind os rest)

-- ---- the same of what may have found no memory

pub came_happens : (os : List ObjectState) (w : World) (r : Request) (reported : Answered) (reply : List ℕ) (b : Buffered) (later : World) (os_later : List ObjectState) (h : EventOutcome) (result : Result (Unit {0}) AllocError)
    → IsReported os w r reported b later os_later → reply ≡ b.reply → OnOk result (h ≡ happened_by reported reply)
    → OnOk result (Happens os w (event.Request r) h os_later later b)
came_happens os w r reported reply b later os_later h (Ok u) is same came =
    subst (λ (x : EventOutcome). Happens os w (event.Request r) x os_later later b)
    (sym (came ∙ ap (λ (octets : List ℕ). happened_by reported octets) same)) (reported_happens os w r reported b later os_later is)
came_happens os w r reported reply b later os_later h (Err e) is same came = tt

pub came_stays : (os : List ObjectState) (w : World) (r : Request) (reported : Answered) (b : Buffered) (later : World) (os_later : List ObjectState) (result : Result (Unit {0}) AllocError)
    → AreAtRest os → IsReported os w r reported b later os_later → OnErr result ((audit_reported reported).denied ≢ [])
    → OnErr result (later ≡ w) × OnErr result (os_later ≡ os)
came_stays os w r reported b later os_later (Ok u) rest is came = (tt, tt)
came_stays os w r reported b later os_later (Err e) rest is came = reported_stays os w r reported b later os_later rest is came
