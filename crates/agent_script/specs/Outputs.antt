-- How a script writes what comes out of an event.
use Rattle.std.specs.Prelude.{ℕ, ◌+◌, Bool, codes, decimal, if◌then◌else◌, List, [], ◌∷◌, ◌++◌, Option, Some, None}
use Rattle.std.specs.List.{flat_map}
use Rattle.hex.specs.Hex.{encode_upper}
use Rattle.audit_core.specs.Text.{audit_text}
use Rattle.audit_core.specs.declared.audit.Audit.{Audit}
use Rattle.decision.specs.declared.choice.Cause.{Cause}
use Rattle.decision.specs.declared.choice.Cause.TheVariants.{UnknownCommunity, NoSuchContext}
use Rattle.frame_core.specs.declared.mac.Mac.{Mac}
use Rattle.frame_core.specs.declared.bpdu.Bpdu.{Bpdu}
use Rattle.frame_core.specs.Sending.{frame_octets}
use Rattle.bridge_core.specs.Bridge.{address_of}
use Rattle.history_core.specs.History.{History, next_step}
use Rattle.history_core.specs.Steps.{Step, cause_of, failure_octets}
use Rattle.history_core.specs.declared.event.Event.{Event}
use Rattle.history_core.specs.declared.event.ReceiptEvent.{ReceiptEvent}
use Rattle.history_core.specs.declared.event.ReceiptEvent.TheVariants as reported
use Rattle.history_core.specs.declared.receipt.Receipt.{Receipt}
use Rattle.history_core.specs.Receipts.{reported_of}
use Rattle.agent_script.specs.Events.{Met, entered, short, Happening, after_event}

-- `drop` and the name of a cause
abbrev pub drop_text : List ℕ → List ℕ
drop_text name = codes "drop " ++ name ++ codes "\n"

-- the name of what drops a request: its community, or its context
abbrev pub dropped_name : Cause → List ℕ
dropped_name UnknownCommunity = codes "UnknownCommunity"
dropped_name (NoSuchContext name) = codes "NoSuchContext"

-- `reply` and the octets of a reply
abbrev pub reply_line : List ℕ → List ℕ
reply_line octets = codes "reply " ++ encode_upper octets ++ codes "\n"

-- a reply, if there is one
abbrev pub reply_text : Option (List ℕ) → List ℕ
reply_text (Some octets) = reply_line octets
reply_text None = []

-- an audit, if there is one, where audits are on
abbrev pub reported_audit : Bool → Option Audit → List ℕ
reported_audit on (Some audit) = if on then codes "audit " ++ audit_text audit ++ codes "\n" else []
reported_audit on None = []

-- a comma and a port
abbrev pub another_port : ℕ → List ℕ
another_port port = codes "," ++ decimal port

-- the ports by which a frame goes out, or a dash
abbrev pub egress_text : List ℕ → List ℕ
egress_text [] = codes "-"
egress_text (port ∷ ports) = decimal port ++ flat_map another_port ports

-- a BPDU that a port sends, as the frame that the bridge of this address sends
abbrev pub bpdu_line : Mac → ℕ → Option Bpdu → List ℕ
bpdu_line address port (Some bpdu) = codes "bpdu " ++ decimal port ++ codes " " ++ encode_upper (frame_octets address bpdu) ++ codes "\n"
bpdu_line address port None = []

-- what the ports from this one on send, in their order
abbrev pub bpdu_lines : Mac → ℕ → List (Option Bpdu) → List ℕ
bpdu_lines address port [] = []
bpdu_lines address port (bpdu ∷ bpdus) =
    bpdu_line address port bpdu ++ bpdu_lines address (port + 1) bpdus

-- where a frame goes
abbrev pub forward_line : List ℕ → List ℕ
forward_line egress = codes "forward " ++ egress_text egress ++ codes "\n"

-- What is written for an event that was entered, ahead of what the ports send: where a frame goes,
-- that a policy is in force, or the reply and the audit of a request.
abbrev pub answer_text : Bool → ReceiptEvent → List ℕ → Option (List ℕ) → Option Audit → List ℕ
answer_text on (reported.Frame port frame) egress reply audit = forward_line egress
answer_text on reported.Tick egress reply audit = []
answer_text on (reported.Link port up) egress reply audit = []
answer_text on reported.Policy egress reply audit = codes "policy ok\n"
answer_text on (reported.Request request) egress reply audit = reply_text reply ++ reported_audit on audit

-- the same, of a receipt and an audit
abbrev pub receipt_text : Bool → Receipt → Option Audit → List ℕ
receipt_text on receipt audit =
    answer_text on receipt.event receipt.egress receipt.reply audit

-- What is written for an event that was entered, and dropped for this cause, if for any.
abbrev pub step_text : Bool → Mac → Option Cause → Event → Step → List ℕ
step_text on address (Some cause) e step =
    drop_text (dropped_name cause) ++ reported_audit on step.audit
step_text on address None e step =
    answer_text on (reported_of e) step.egress step.reply step.audit
    ++ bpdu_lines address 1 step.bpdus

-- what is written for an event for which there was no memory: the reply to a request, or that there was
-- none
abbrev pub short_text : List ℕ → List ℕ
short_text [] = codes "short\n"
short_text (octet ∷ octets) = reply_line (octet ∷ octets)

-- What is written for an event. Audits are written where `on`, and the bridge sends from its address.
abbrev pub event_text : Bool → History → Event → Met → List ℕ
event_text on h e (entered notes) =
    step_text on (address_of h.world.bridge) (cause_of h.world e) e (next_step h e notes)
event_text on h e short = short_text (failure_octets h.world e)

-- events that happen one after another
abbrev pub events_text : Bool → History → List Happening → List ℕ
events_text on h [] = []
events_text on h (x ∷ xs) =
    event_text on h x.event x.met ++ events_text on (after_event h x.event x.met) xs
