-- What `apply` answers, and what it leaves.
use Rattle.std.proofs.Common.{◌≡◌, ◌∙◌, ℕ, ◌<◌, Bool, true, false, List, [], length, Option, Some, None, ap, refl, sym}
use Rattle.std.specs.Prelude.{◌==◌, if◌then◌else◌}
use Rattle.audit_core.specs.declared.audit.Audit.{Audit}
use Rattle.decision.specs.declared.choice.Cause.{Cause}
use Rattle.frame_core.specs.declared.frame.FrameIn.{FrameIn}
use Rattle.bridge_core.specs.Events.{frame_result, link_of, after_link}
use Rattle.setphase_core.specs.declared.world.World.{World}
use Rattle.setphase_core.specs.Objects.{ObjectState}
use Rattle.agent_core.specs.Buffered.{Buffered}
use Rattle.history_core.specs.Receipts.{reported_of}
use Rattle.history_core.specs.Steps.{Notes, request_notes, step_of, has_port, silent_step, framed_step, bridge_step, cause_in, cause_of}
use Rattle.history_core.specs.History.{History, undos_in, next_of, IsHistory, next_step, after, next_receipt, IsEntered, Applies, last_number}
use Rattle.history_core.specs.Happening.{notes_in, Happens}
use Rattle.history_core.specs.Keeping.{entry_of, receipt_of, Enters, applied_by, applied_because}
use Rattle.history_core.specs.declared.entry.Entry.{Entry}
use Rattle.history_core.specs.declared.event.Event.{Event}
use Rattle.history_core.specs.declared.event.Event.TheVariants as event
use Rattle.history_core.specs.declared.event.ReceiptEvent.{ReceiptEvent}
use Rattle.history_core.specs.declared.happening.EventOutcome.{EventOutcome}
use Rattle.history_core.specs.declared.limits.TheConstants.{MAX_ENTRIES}
use Rattle.history_core.specs.declared.receipt.Receipt.{Receipt}
use Rattle.history_core.proofs.Stepping.{audit_decided}
use Rattle.history_core.proofs.Histories.{MayBe, entered, entered-ok}

-- ---- the entry

may_be : (h : History) (e : Event) (x : EventOutcome) (objects : List ObjectState) (world : World) (b : Buffered)
    → Happens h.objects h.world e x objects world b → MayBe h e (notes_in x)
may_be h e x objects world b is = record { may = is.may; undos = ap undos_in (sym is.audit) }

-- The fields that `apply` leaves are the history after the event, and it is legal.
pub left-ok : (h : History) (e : Event) (x : EventOutcome) (next : ℕ) (new : Option World) (entry : Entry) (entries : List Entry) (base : World) (base_number : ℕ) (world : World) (objects : List ObjectState) (b : Buffered)
    → IsHistory h → next ≡ next_of h → next_of h < last_number
    → new ≡ (if length h.entries == MAX_ENTRIES then Some h.world else None)
    → Happens h.objects h.world e x objects world b → entry ≡ entry_of e x
    → Enters new next h.entries h.base h.base_number entry entries base base_number
    → (entered h e (notes_in x) entries base base_number world objects ≡ after h e (notes_in x))
    × IsHistory (entered h e (notes_in x) entries base base_number world objects)
left-ok h e x next new entry entries base base_number world objects b ok number fits is happens made moves =
    entered-ok h e (notes_in x) next new entry entries base base_number world objects ok (may_be h e x objects world b happens) number fits is moves
    (made ∙ (λ i. record { event = e; no_room = x.no_room; failed = x.failed; unnamed = x.unnamed; egress = happens.egress i; reply = happens.reply i; audit = happens.audit i }))
    happens.world happens.objects_after

-- ---- why a request is dropped

no_frame_audit : (os : List ObjectState) (w : World) (port : ℕ) (f : FrameIn) (no_room there : Bool)
    → (if there then framed_step os w (frame_result w.bridge port f no_room) else silent_step os w).audit ≡ None
no_frame_audit os w port f no_room true = refl
no_frame_audit os w port f no_room false = refl

no_link_audit : (os : List ObjectState) (w : World) (port : ℕ) (up there : Bool)
    → (if there then bridge_step os w (after_link port up w.bridge) [] (link_of port up w.bridge).bpdus else silent_step os w).audit ≡ None
no_link_audit os w port up true = refl
no_link_audit os w port up false = refl

same_some : (a b : Audit) → Some a ≡ Some b → a ≡ b
same_some a b e = cc

-- an audit that is reported has the decision on the request
cause_reported : (os : List ObjectState) (w : World) (e : Event) (n : Notes) (a : Audit) → Some a ≡ (step_of os w e n).audit
    → cause_of w e ≡ cause_in a.decision
unfolding step_of
cause_reported os w (event.Frame port f) n a e = cc (e ∙ no_frame_audit os w port f n.no_room (has_port w.bridge port))
cause_reported os w event.Tick n a e = cc
cause_reported os w (event.Link port up) n a e = cc (e ∙ no_link_audit os w port up (has_port w.bridge port))
cause_reported os w (event.Policy tables) n a e = cc
cause_reported os w (event.Request r) n a e =
    sym (ap (λ (x : Audit). cause_in x.decision) (same_some a _ e) ∙ ap cause_in (audit_decided os w r (request_notes n)))

no_cause_reported : (os : List ObjectState) (w : World) (e : Event) (n : Notes) → None ≡ (step_of os w e n).audit → cause_of w e ≡ None
unfolding step_of
no_cause_reported os w (event.Frame port f) n e = refl
no_cause_reported os w event.Tick n e = refl
no_cause_reported os w (event.Link port up) n e = refl
no_cause_reported os w (event.Policy tables) n e = refl
no_cause_reported os w (event.Request r) n e = cc

-- ---- what is answered

entered_is : (h : History) (e : Event) (x : EventOutcome) (world : World) (objects : List ObjectState) (b : Buffered) (receipt : Receipt) (audit : Option Audit) (later : History)
    → Happens h.objects h.world e x objects world b → receipt ≡ next_receipt h e (notes_in x) → audit ≡ x.reported_audit → later ≡ after h e (notes_in x)
    → IsEntered h e receipt audit later b
entered_is h e x world objects b receipt audit later happens same_receipt same_audit same_later =
    let reported = same_audit ∙ happens.same_audit in
    record {
      notes = notes_in x;
      may = happens.may;
      by_plan = happens.by_plan;
      same_undos = ap undos_in (reported ∙ sym happens.audit);
      after_is = same_later;
      receipt_is = same_receipt;
      audit_is = reported;
      reply_is = happens.sent;
      bpdus_are = happens.bpdus;
    }

applies_because : (h : History) (e : Event) (receipt : Receipt) (audit : Audit) (later : History) (b : Buffered) (cause : Option Cause)
    → next_of h < last_number → cause_of h.world e ≡ cause → IsEntered h e receipt (Some audit) later b
    → Applies h e (applied_because receipt audit cause) later b
applies_because h e receipt audit later b None fits same is = (fits, same, is)
applies_because h e receipt audit later b (Some cause) fits same is = (fits, same, is)

applies_by : (h : History) (e : Event) (n : Notes) (receipt : Receipt) (audit : Option Audit) (later : History) (b : Buffered)
    → next_of h < last_number → audit ≡ (next_step h e n).audit → IsEntered h e receipt audit later b
    → Applies h e (applied_by receipt audit) later b
applies_by h e n receipt None later b fits same is = (fits, no_cause_reported h.objects h.world e n same, is)
applies_by h e n receipt (Some audit) later b fits same is =
    applies_because h e receipt audit later b (cause_in audit.decision) fits (cause_reported h.objects h.world e n audit same) is

pub applies-ok : (h : History) (e : Event) (x : EventOutcome) (world : World) (objects : List ObjectState) (b : Buffered) (number : ℕ) (reported : ReceiptEvent) (receipt : Receipt) (audit : Option Audit) (later : History)
    → next_of h < last_number → Happens h.objects h.world e x objects world b
    → number ≡ next_of h → reported ≡ reported_of e → receipt ≡ receipt_of number reported x
    → audit ≡ x.reported_audit → later ≡ after h e (notes_in x)
    → Applies h e (applied_by receipt audit) later b
applies-ok h e x world objects b number reported receipt audit later fits happens same_number same_reported made same_audit same_later =
    let receipt_is : receipt ≡ next_receipt h e (notes_in x) =
    made ∙ (λ i. record { number = same_number i; event = same_reported i; egress = happens.egress i; reply = happens.same_reply i }) in
    applies_by h e (notes_in x) receipt audit later b fits (same_audit ∙ happens.same_audit)
    (entered_is h e x world objects b receipt audit later happens receipt_is same_audit same_later)
