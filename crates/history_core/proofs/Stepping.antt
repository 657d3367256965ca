-- What a step hangs on, what it leaves, and what its audit says.
use Rattle.std.proofs.Common.{◌≡◌, ◌≢◌, ℕ, Bool, true, false, if◌then◌else◌, List, [], ◌∷◌, map, Option, Some, None, ap, refl, sym}
use Rattle.std.specs.Prelude.{unwrap_or}
use Rattle.message_core.specs.declared.request.Kind.{Kind}
use Rattle.message_core.specs.declared.request.Kind.TheVariants.{Get, GetNext, GetBulk, Set}
use Rattle.message_core.specs.declared.request.Request.{Request}
use Rattle.decision.specs.Deciding.{decision_on}
use Rattle.decision.specs.declared.keys.AccessKey.{AccessKey}
use Rattle.decision.specs.declared.choice.Decision.{Decision}
use Rattle.decision.specs.declared.choice.Decision.TheVariants.{Drop, Empty, Refused, Allowed}
use Rattle.frame_core.specs.declared.frame.FrameIn.{FrameIn}
use Rattle.rstp_settings.specs.declared.key.Key.{Key}
use Rattle.setphase_core.specs.declared.sets.SetRefusal.{SetRefusal}
use Rattle.setphase_core.specs.declared.world.World.{World}
use Rattle.setphase_core.specs.Objects.{ObjectRow, ObjectState, object_after_release}
use Rattle.setphase_core.specs.Registry.{rows_of}
use Rattle.setphase_core.specs.Together.{refusal_of}
use Rattle.setphase_core.specs.Variables.{writings}
use Rattle.setphase_core.specs.Outcomes.{SetNotes, world_after_set}
use Rattle.setphase_core.specs.Calls.{Call, calls_of, object_after_set}
use Rattle.setphase_core.proofs.Called.{reserved_after_calls}
use Rattle.setphase_core.proofs.Kept.{rows_of-after}
use Rattle.bridge_core.specs.Events.{frame_result, link_of, after_link}
use Rattle.agent_core.specs.Sets.{SetStep, SetAnswer, answer_of_failure, answer_of_notes, is_too_long, set_answer, set_reply, set_step, settled_world, settling_bpdus, untested_step, tested_step, MayFail, MayFailWhere, MayFailInSet}
use Rattle.agent_core.specs.Answers as answers
use Rattle.agent_core.specs.Answers.{Outcome, dropped, replied, audit_in, RequestNotes, Shown, shown_of, outcome_of, outcome_by, noted_outcome, unnamed_outcome, unnamed_outcome_by, world_by, world_after, reading_step, writing_step, allowed_step, step_by, MayHave, MayFailBy, MayFailInView}
use Rattle.agent_core.proofs.Changed.{unsettled}
use Rattle.history_core.specs.Steps.{Notes, request_notes, Step, step_of, octets_in, has_port, silent_step, framed_step, bridge_step, request_step, AreAtRest}
use Rattle.history_core.specs.History.{resting}
use Rattle.history_core.specs.declared.event.Event.{Event}
use Rattle.history_core.specs.declared.event.Event.TheVariants as event

-- ---- a step hangs on the rows of the objects alone

-- two steps of which the objects alone may differ
pub record SameStep (a b : Step) : Type 0 where
  pub world : a.world ≡ b.world
  pub egress : a.egress ≡ b.egress
  pub reply : a.reply ≡ b.reply
  pub audit : a.audit ≡ b.audit
  pub bpdus : a.bpdus ≡ b.bpdus

record SameAnswer (a b : answers.Step) : Type 0 where
  outcome : a.outcome ≡ b.outcome
  world : a.world ≡ b.world
  bpdus : a.bpdus ≡ b.bpdus

record SameSet (a b : SetStep) : Type 0 where
  reply : a.reply ≡ b.reply
  denied : a.denied ≡ b.denied
  unrestored : a.unrestored ≡ b.unrestored
  world : a.world ≡ b.world
  bpdus : a.bpdus ≡ b.bpdus

tested_over : (a b : List ObjectState) (w : World) (view : List ℕ) (r : Request) (n : SetNotes)
    → rows_of a ≡ rows_of b → SameSet (tested_step a w view r n) (tested_step b w view r n)
tested_over a b w view r n e =
    let answer = ap (λ (rows : List ObjectRow). set_answer w.policy.vacm.families (refusal_of rows w view r.bindings) n) e in
    let after = ap (λ (rows : List ObjectRow). world_after_set (refusal_of rows w view r.bindings) (writings rows w r.bindings) w n) e in
    record {
      reply = ap (λ (x : SetAnswer). set_reply r x) answer;
      denied = ap (λ (x : SetAnswer). x.denied) answer;
      unrestored = refl;
      world = ap (λ (x : World). settled_world w x) after;
      bpdus = ap (λ (x : World). settling_bpdus w x) after;
    }

set_over_by : (a b : List ObjectState) (w : World) (view : List ℕ) (r : Request) (n : SetNotes) (too_long : Bool)
    → rows_of a ≡ rows_of b
    → SameSet (if too_long then untested_step a w r else tested_step a w view r n) (if too_long then untested_step b w r else tested_step b w view r n)
set_over_by a b w view r n true e = record { reply = refl; denied = refl; unrestored = refl; world = refl; bpdus = refl }
set_over_by a b w view r n false e = tested_over a b w view r n e

set_over : (a b : List ObjectState) (w : World) (view : List ℕ) (r : Request) (n : SetNotes)
    → rows_of a ≡ rows_of b → SameSet (set_step a w view r n) (set_step b w view r n)
unfolding set_step
set_over a b w view r n e = set_over_by a b w view r n (is_too_long r) e

reading_over : (a b : List ObjectState) (w : World) (r : Request) (u : Option ℕ) → rows_of a ≡ rows_of b
    → SameAnswer (reading_step a w r u) (reading_step b w r u)
reading_over a b w r u e = record {
  outcome = ap (λ (rows : List ObjectRow). noted_outcome (shown_of rows w) r u) e;
  world = refl;
  bpdus = refl;
}

writing_over : (a b : SetStep) (r : Request) (row : AccessKey) (view : List ℕ) → SameSet a b
    → SameAnswer (writing_step r row view a) (writing_step r row view b)
writing_over a b r row view s = record {
  outcome = λ i. replied (s.reply i) (answers.reply_audit r (Allowed row view) (s.denied i) (s.unrestored i) (s.reply i));
  world = s.world;
  bpdus = s.bpdus;
}

allowed_over : (a b : List ObjectState) (w : World) (r : Request) (n : RequestNotes) (row : AccessKey) (view : List ℕ) (kind : Kind)
    → rows_of a ≡ rows_of b → SameAnswer (allowed_step a w r n row view kind) (allowed_step b w r n row view kind)
allowed_over a b w r n row view Get e = reading_over a b w r n.unnamed e
allowed_over a b w r n row view GetNext e = reading_over a b w r n.unnamed e
allowed_over a b w r n row view GetBulk e = reading_over a b w r n.unnamed e
allowed_over a b w r n row view Set e =
    writing_over (set_step a w view r n.devices) (set_step b w view r n.devices) r row view (set_over a b w view r n.devices e)

answer_over_by : (a b : List ObjectState) (w : World) (r : Request) (n : RequestNotes) (d : Decision)
    → rows_of a ≡ rows_of b → SameAnswer (step_by a w r n d) (step_by b w r n d)
answer_over_by a b w r n (Drop cause) e = reading_over a b w r None e
answer_over_by a b w r n Empty e = reading_over a b w r None e
answer_over_by a b w r n (Refused why) e = reading_over a b w r None e
answer_over_by a b w r n (Allowed row view) e = allowed_over a b w r n row view r.kind e

answer_over : (a b : List ObjectState) (w : World) (r : Request) (n : RequestNotes)
    → rows_of a ≡ rows_of b → SameAnswer (answers.step_of a w r n) (answers.step_of b w r n)
unfolding answers.step_of
answer_over a b w r n e = answer_over_by a b w r n (decision_on w.policy r) e

request_over : (a b : answers.Step) → SameAnswer a b → SameStep (request_step a) (request_step b)
request_over a b s = record {
  world = s.world;
  egress = refl;
  reply = ap (λ (o : Outcome). (request_step (record a { outcome = o })).reply) s.outcome;
  audit = ap (λ (o : Outcome). Some (audit_in o)) s.outcome;
  bpdus = s.bpdus;
}

frame_over : (a b : List ObjectState) (w : World) (port : ℕ) (f : FrameIn) (no_room there : Bool)
    → SameStep (if there then framed_step a w (frame_result w.bridge port f no_room) else silent_step a w)
    (if there then framed_step b w (frame_result w.bridge port f no_room) else silent_step b w)
frame_over a b w port f no_room true = record { world = refl; egress = refl; reply = refl; audit = refl; bpdus = refl }
frame_over a b w port f no_room false = record { world = refl; egress = refl; reply = refl; audit = refl; bpdus = refl }

link_over : (a b : List ObjectState) (w : World) (port : ℕ) (up there : Bool)
    → SameStep (if there then bridge_step a w (after_link port up w.bridge) [] (link_of port up w.bridge).bpdus else silent_step a w)
    (if there then bridge_step b w (after_link port up w.bridge) [] (link_of port up w.bridge).bpdus else silent_step b w)
link_over a b w port up true = record { world = refl; egress = refl; reply = refl; audit = refl; bpdus = refl }
link_over a b w port up false = record { world = refl; egress = refl; reply = refl; audit = refl; bpdus = refl }

-- Over objects of the same rows a step is the same but for the objects.
pub step_over : (a b : List ObjectState) (w : World) (e : Event) (n : Notes) → rows_of a ≡ rows_of b
    → SameStep (step_of a w e n) (step_of b w e n)
unfolding step_of
step_over a b w (event.Frame port f) n e = frame_over a b w port f n.no_room (has_port w.bridge port)
step_over a b w event.Tick n e = record { world = refl; egress = refl; reply = refl; audit = refl; bpdus = refl }
step_over a b w (event.Link port up) n e = link_over a b w port up (has_port w.bridge port)
step_over a b w (event.Policy tables) n e = record { world = refl; egress = refl; reply = refl; audit = refl; bpdus = refl }
step_over a b w (event.Request r) n e =
    request_over (answers.step_of a w r (request_notes n)) (answers.step_of b w r (request_notes n)) (answer_over a b w r (request_notes n) e)

-- the rows of resting objects are those that they are made of
pub rows_of-resting : (rows : List ObjectRow) → rows_of (resting rows) ≡ rows
rows_of-resting [] = refl
rows_of-resting (row ∷ rows) = ap (λ (rest : List ObjectRow). row ∷ rest) (rows_of-resting rows)

-- ---- what a step leaves of the objects: their rows, and nothing reserved

pub record Rests (before after : List ObjectState) : Type 0 where
  pub rows : rows_of after ≡ rows_of before
  pub at_rest : AreAtRest after

at_rest-after : (calls : List Call) (os : List ObjectState) → AreAtRest (map (object_after_set calls) os)
at_rest-after calls [] = tt
at_rest-after calls (o ∷ os) = (reserved_after_calls calls (object_after_release o), at_rest-after calls os)

at_rest-released : (os : List ObjectState) → AreAtRest (map object_after_release os)
at_rest-released [] = tt
at_rest-released (o ∷ os) = (refl, at_rest-released os)

-- objects at rest are released already
pub released-at_rest : (os : List ObjectState) → AreAtRest os → map object_after_release os ≡ os
released-at_rest [] h = refl
released-at_rest (o ∷ os) h =
    λ i. record o { reserved = sym h.0 i } ∷ released-at_rest os h.1 i

pub fresh-at_rest : (os : List ObjectState) → AreAtRest (map object_after_release os)
fresh-at_rest os = at_rest-released os

kept : (os : List ObjectState) → AreAtRest os → Rests os os
kept os h = record { rows = refl; at_rest = h }

set_rests_by : (os : List ObjectState) (w : World) (view : List ℕ) (r : Request) (n : SetNotes) (too_long : Bool) → AreAtRest os
    → Rests os (if too_long then untested_step os w r else tested_step os w view r n).objects
set_rests_by os w view r n true h = kept os h
set_rests_by os w view r n false h =
    let calls = calls_of (refusal_of (rows_of os) w view r.bindings) (writings (rows_of os) w r.bindings) n in
    record { rows = rows_of-after calls os; at_rest = at_rest-after calls os }

set_rests : (os : List ObjectState) (w : World) (view : List ℕ) (r : Request) (n : SetNotes) → AreAtRest os
    → Rests os (set_step os w view r n).objects
unfolding set_step
set_rests os w view r n h = set_rests_by os w view r n (is_too_long r) h

allowed_rests : (os : List ObjectState) (w : World) (r : Request) (n : RequestNotes) (row : AccessKey) (view : List ℕ) (kind : Kind) → AreAtRest os
    → Rests os (allowed_step os w r n row view kind).objects
allowed_rests os w r n row view Get h = kept os h
allowed_rests os w r n row view GetNext h = kept os h
allowed_rests os w r n row view GetBulk h = kept os h
allowed_rests os w r n row view Set h = set_rests os w view r n.devices h

answer_rests_by : (os : List ObjectState) (w : World) (r : Request) (n : RequestNotes) (d : Decision) → AreAtRest os
    → Rests os (step_by os w r n d).objects
answer_rests_by os w r n (Drop cause) h = kept os h
answer_rests_by os w r n Empty h = kept os h
answer_rests_by os w r n (Refused why) h = kept os h
answer_rests_by os w r n (Allowed row view) h = allowed_rests os w r n row view r.kind h

answer_rests : (os : List ObjectState) (w : World) (r : Request) (n : RequestNotes) → AreAtRest os
    → Rests os (answers.step_of os w r n).objects
unfolding answers.step_of
answer_rests os w r n h = answer_rests_by os w r n (decision_on w.policy r) h

frame_rests : (os : List ObjectState) (w : World) (port : ℕ) (f : FrameIn) (no_room there : Bool) → AreAtRest os
    → Rests os (if there then framed_step os w (frame_result w.bridge port f no_room) else silent_step os w).objects
frame_rests os w port f no_room true h = kept os h
frame_rests os w port f no_room false h = kept os h

link_rests : (os : List ObjectState) (w : World) (port : ℕ) (up there : Bool) → AreAtRest os
    → Rests os (if there then bridge_step os w (after_link port up w.bridge) [] (link_of port up w.bridge).bpdus else silent_step os w).objects
link_rests os w port up true h = kept os h
link_rests os w port up false h = kept os h

-- No event changes the rows of the objects, or leaves anything reserved.
pub step_rests : (os : List ObjectState) (w : World) (e : Event) (n : Notes) → AreAtRest os
    → Rests os (step_of os w e n).objects
unfolding step_of
step_rests os w (event.Frame port f) n h = frame_rests os w port f n.no_room (has_port w.bridge port) h
step_rests os w event.Tick n h = kept os h
step_rests os w (event.Link port up) n h = link_rests os w port up (has_port w.bridge port) h
step_rests os w (event.Policy tables) n h = kept os h
step_rests os w (event.Request r) n h = answer_rests os w r (request_notes n) h

-- ---- the audit has the decision

outcome_decided : (shown : Shown) (r : Request) (d : Decision) → (audit_in (outcome_by shown r d)).decision ≡ d
outcome_decided shown r (Drop cause) = refl
outcome_decided shown r Empty = refl
outcome_decided shown r (Refused why) = refl
outcome_decided shown r (Allowed row view) = refl

unnamed_decided : (shown : Shown) (r : Request) (i : ℕ) (d : Decision) → (audit_in (unnamed_outcome_by shown r i d)).decision ≡ d
unnamed_decided shown r i (Drop cause) = refl
unnamed_decided shown r i Empty = refl
unnamed_decided shown r i (Refused why) = refl
unnamed_decided shown r i (Allowed row view) = refl

reading_decided : (os : List ObjectState) (w : World) (r : Request) (u : Option ℕ)
    → (audit_in (reading_step os w r u).outcome).decision ≡ decision_on w.policy r
unfolding outcome_of unnamed_outcome
reading_decided os w r None = outcome_decided (shown_of (rows_of os) w) r (decision_on w.policy r)
reading_decided os w r (Some i) = unnamed_decided (shown_of (rows_of os) w) r i (decision_on w.policy r)

allowed_decided : (os : List ObjectState) (w : World) (r : Request) (n : RequestNotes) (row : AccessKey) (view : List ℕ) (kind : Kind)
    → decision_on w.policy r ≡ Allowed row view
    → (audit_in (allowed_step os w r n row view kind).outcome).decision ≡ decision_on w.policy r
allowed_decided os w r n row view Get e = reading_decided os w r n.unnamed
allowed_decided os w r n row view GetNext e = reading_decided os w r n.unnamed
allowed_decided os w r n row view GetBulk e = reading_decided os w r n.unnamed
allowed_decided os w r n row view Set e = sym e

decided_by : (os : List ObjectState) (w : World) (r : Request) (n : RequestNotes) (d : Decision) → decision_on w.policy r ≡ d
    → (audit_in (step_by os w r n d).outcome).decision ≡ decision_on w.policy r
decided_by os w r n (Drop cause) e = reading_decided os w r None
decided_by os w r n Empty e = reading_decided os w r None
decided_by os w r n (Refused why) e = reading_decided os w r None
decided_by os w r n (Allowed row view) e = allowed_decided os w r n row view r.kind e

pub audit_decided : (os : List ObjectState) (w : World) (r : Request) (n : RequestNotes)
    → (audit_in (answers.step_of os w r n).outcome).decision ≡ decision_on w.policy r
unfolding answers.step_of
audit_decided os w r n = decided_by os w r n (decision_on w.policy r) refl

-- ---- where an audit names a denied variable, nothing has changed

pub record Stays (os : List ObjectState) (w : World) (step : answers.Step) : Type 0 where
  pub world : step.world ≡ w
  pub objects : step.objects ≡ os

reading_world : (shown : Shown) (w : World) (r : Request) (d : Decision)
    → ((audit_in (outcome_by shown r d)).denied ≢ []) → world_by w d ≡ w
reading_world shown w r (Drop cause) h = absurd (h refl)
reading_world shown w r Empty h = refl
reading_world shown w r (Refused why) h = refl
reading_world shown w r (Allowed row view) h = refl

unnamed_world : (shown : Shown) (w : World) (r : Request) (i : ℕ) (d : Decision)
    → ((audit_in (unnamed_outcome_by shown r i d)).denied ≢ []) → world_by w d ≡ w
unnamed_world shown w r i (Drop cause) h = absurd (h refl)
unnamed_world shown w r i Empty h = refl
unnamed_world shown w r i (Refused why) h = refl
unnamed_world shown w r i (Allowed row view) h = refl

reading_stays : (os : List ObjectState) (w : World) (r : Request) (u : Option ℕ) → ((audit_in (reading_step os w r u).outcome).denied ≢ [])
    → Stays os w (reading_step os w r u)
unfolding outcome_of unnamed_outcome world_after
reading_stays os w r None h = record { world = reading_world (shown_of (rows_of os) w) w r (decision_on w.policy r) h; objects = refl }
reading_stays os w r (Some i) h = record { world = unnamed_world (shown_of (rows_of os) w) w r i (decision_on w.policy r) h; objects = refl }

same_after : (os : List ObjectState) → AreAtRest os → map (object_after_set []) os ≡ os
same_after [] h = refl
same_after (o ∷ os) h =
    λ i. record o { reserved = sym h.0 i } ∷ same_after os h.1 i

failure_denies_none : (i : ℕ) (undos : List Key) → (answer_of_failure i undos).denied ≡ []
failure_denies_none i [] = refl
failure_denies_none i (key ∷ keys) = refl

notes_deny_none : (commit : Option ℕ) (undos : List Key) → (answer_of_notes commit undos).denied ≡ []
notes_deny_none None undos = refl
notes_deny_none (Some i) undos = failure_denies_none i undos

tested_stays_by : (os : List ObjectState) (w : World) (view : List ℕ) (r : Request) (n : SetNotes) (refusal : Option SetRefusal)
    → AreAtRest os → MayFail refusal (writings (rows_of os) w r.bindings) n
    → ((set_answer w.policy.vacm.families refusal n).denied ≢ [])
    → (settled_world w (world_after_set refusal (writings (rows_of os) w r.bindings) w n) ≡ w)
    × (map (object_after_set (calls_of refusal (writings (rows_of os) w r.bindings) n)) os ≡ os)
tested_stays_by os w view r n None rest may h = absurd (h (notes_deny_none n.commit n.undos))
tested_stays_by os w view r n (Some refusal) rest may h = (
  unsettled w,
  same_after os rest,
)

set_stays_by : (os : List ObjectState) (w : World) (view : List ℕ) (r : Request) (n : SetNotes) (too_long : Bool)
    → AreAtRest os → MayFailWhere too_long (refusal_of (rows_of os) w view r.bindings) (writings (rows_of os) w r.bindings) n
    → let step = if too_long then untested_step os w r else tested_step os w view r n in
    (step.denied ≢ []) → (step.world ≡ w) × (step.objects ≡ os)
set_stays_by os w view r n true rest may h = (refl, refl)
set_stays_by os w view r n false rest may h = tested_stays_by os w view r n (refusal_of (rows_of os) w view r.bindings) rest may h

set_stays : (os : List ObjectState) (w : World) (view : List ℕ) (r : Request) (n : SetNotes)
    → AreAtRest os → MayFailInSet (rows_of os) w view r n
    → ((set_step os w view r n).denied ≢ []) → ((set_step os w view r n).world ≡ w) × ((set_step os w view r n).objects ≡ os)
unfolding set_step
set_stays os w view r n rest may h = set_stays_by os w view r n (is_too_long r) rest may h

allowed_stays : (os : List ObjectState) (w : World) (r : Request) (n : RequestNotes) (row : AccessKey) (view : List ℕ) (kind : Kind)
    → AreAtRest os → MayFailInView (rows_of os) w view r n.devices kind
    → ((audit_in (allowed_step os w r n row view kind).outcome).denied ≢ []) → Stays os w (allowed_step os w r n row view kind)
allowed_stays os w r n row view Get rest may h = reading_stays os w r n.unnamed h
allowed_stays os w r n row view GetNext rest may h = reading_stays os w r n.unnamed h
allowed_stays os w r n row view GetBulk rest may h = reading_stays os w r n.unnamed h
allowed_stays os w r n row view Set rest may h =
    let t = set_stays os w view r n.devices rest may h in record { world = t.0; objects = t.1 }

stays_by : (os : List ObjectState) (w : World) (r : Request) (n : RequestNotes) (d : Decision)
    → AreAtRest os → MayFailBy (rows_of os) w r n d
    → ((audit_in (step_by os w r n d).outcome).denied ≢ []) → Stays os w (step_by os w r n d)
stays_by os w r n (Drop cause) rest may h = reading_stays os w r None h
stays_by os w r n Empty rest may h = reading_stays os w r None h
stays_by os w r n (Refused why) rest may h = reading_stays os w r None h
stays_by os w r n (Allowed row view) rest may h = allowed_stays os w r n row view r.kind rest may.devices h

pub denied_stays : (os : List ObjectState) (w : World) (r : Request) (n : RequestNotes)
    → AreAtRest os → MayHave (rows_of os) w r n
    → ((audit_in (answers.step_of os w r n).outcome).denied ≢ []) → Stays os w (answers.step_of os w r n)
unfolding answers.step_of MayHave
denied_stays os w r n rest may h = stays_by os w r n (decision_on w.policy r) rest may h

-- ---- where a request that is no Set has a reply, nothing has changed

reading_world_replied : (shown : Shown) (w : World) (r : Request) (d : Decision)
    → (unwrap_or (octets_in (outcome_by shown r d)) [] ≢ []) → world_by w d ≡ w
reading_world_replied shown w r (Drop cause) h = absurd (h refl)
reading_world_replied shown w r Empty h = refl
reading_world_replied shown w r (Refused why) h = refl
reading_world_replied shown w r (Allowed row view) h = refl

unnamed_world_replied : (shown : Shown) (w : World) (r : Request) (i : ℕ) (d : Decision)
    → (unwrap_or (octets_in (unnamed_outcome_by shown r i d)) [] ≢ []) → world_by w d ≡ w
unnamed_world_replied shown w r i (Drop cause) h = absurd (h refl)
unnamed_world_replied shown w r i Empty h = refl
unnamed_world_replied shown w r i (Refused why) h = refl
unnamed_world_replied shown w r i (Allowed row view) h = refl

reading_replied : (os : List ObjectState) (w : World) (r : Request) (u : Option ℕ) → (unwrap_or (octets_in (reading_step os w r u).outcome) [] ≢ [])
    → Stays os w (reading_step os w r u)
unfolding outcome_of unnamed_outcome world_after
reading_replied os w r None h = record { world = reading_world_replied (shown_of (rows_of os) w) w r (decision_on w.policy r) h; objects = refl }
reading_replied os w r (Some i) h = record { world = unnamed_world_replied (shown_of (rows_of os) w) w r i (decision_on w.policy r) h; objects = refl }

allowed_replied : (os : List ObjectState) (w : World) (r : Request) (n : RequestNotes) (row : AccessKey) (view : List ℕ) (kind : Kind)
    → kind ≢ Set → (unwrap_or (octets_in (allowed_step os w r n row view kind).outcome) [] ≢ []) → Stays os w (allowed_step os w r n row view kind)
allowed_replied os w r n row view Get reads h = reading_replied os w r n.unnamed h
allowed_replied os w r n row view GetNext reads h = reading_replied os w r n.unnamed h
allowed_replied os w r n row view GetBulk reads h = reading_replied os w r n.unnamed h
allowed_replied os w r n row view Set reads h = absurd (reads refl)

replied_by : (os : List ObjectState) (w : World) (r : Request) (n : RequestNotes) (d : Decision)
    → r.kind ≢ Set → (unwrap_or (octets_in (step_by os w r n d).outcome) [] ≢ []) → Stays os w (step_by os w r n d)
replied_by os w r n (Drop cause) reads h = reading_replied os w r None h
replied_by os w r n Empty reads h = reading_replied os w r None h
replied_by os w r n (Refused why) reads h = reading_replied os w r None h
replied_by os w r n (Allowed row view) reads h = allowed_replied os w r n row view r.kind reads h

pub replied_stays : (os : List ObjectState) (w : World) (r : Request) (n : RequestNotes)
    → r.kind ≢ Set → (unwrap_or (octets_in (answers.step_of os w r n).outcome) [] ≢ []) → Stays os w (answers.step_of os w r n)
unfolding answers.step_of
replied_stays os w r n reads h = replied_by os w r n (decision_on w.policy r) reads h
