-- What a manager makes of a datagram that comes behind its request. A Response answers the request
-- of its request-id (RFC 3416, section 4.1) and is of its community (RFC 1901, section 3).
use Rattle.std.specs.Prelude.{◌≡◌, ◌≢◌, ℕ, ◌⊎◌, List, Option, Some, None, Result, Ok, Err}
use Rattle.message_core.specs.declared.cause.DropCause.{DropCause}
use Rattle.message_core.specs.declared.cause.DropCause.TheVariants as cause
use Rattle.message_core.specs.declared.binding.Binding.{Binding}
use Rattle.message_core.specs.declared.request.Request.{Request}
use Rattle.message_core.specs.declared.reply.Reply.{Reply}
use Rattle.message_core.specs.declared.status.ErrorStatus.TheVariants.{NoError}
use Rattle.manager_core.specs.declared.fault.ManagerFault.{ManagerFault}
use Rattle.manager_core.specs.declared.fault.ManagerFault.TheVariants.{Timeout, BadReply, Error, NotIncreasing, Memory}
use Rattle.message_core.specs.Message.{GivesReply, IsReplyCause}

-- What a reply says to a request: nothing where it is of another request-id; else it ends the ask,
-- with BadReply where it is of another community, with its status and its index where its status is
-- not noError, and else with its bindings.
abbrev pub IsReported : Request → Reply → Option (Result (List Binding) ManagerFault) → Type 0
IsReported r reply None = reply.id ≢ r.id
IsReported r reply (Some (Ok found)) =
    (reply.id ≡ r.id) × (reply.community ≡ r.community) × (reply.status ≡ NoError) × (found ≡ reply.bindings)
IsReported r reply (Some (Err (Error status index))) =
    (reply.id ≡ r.id) × (reply.community ≡ r.community) × (reply.status ≢ NoError) × (status ≡ reply.status) × (index ≡ reply.index)
IsReported r reply (Some (Err BadReply)) = (reply.id ≡ r.id) × (reply.community ≢ r.community)
IsReported r reply (Some (Err (Timeout tries))) = ⊥
IsReported r reply (Some (Err NotIncreasing)) = ⊥
IsReported r reply (Some (Err Memory)) = ⊥

-- A datagram that gives a reply, which says so.
abbrev pub ReportsSo : Request → List ℕ → Option (Result (List Binding) ManagerFault) → Type 0
ReportsSo r octets stated = (reply : Reply) × GivesReply octets reply × IsReported r reply stated

-- What a datagram says to a request: what the reply says that it gives; BadReply where it gives
-- none. Memory can be wanting only where reading takes some.
abbrev pub IsHeard : Request → List ℕ → Option (Result (List Binding) ManagerFault) → Type 0
IsHeard r octets None = ReportsSo r octets None
IsHeard r octets (Some (Ok found)) = ReportsSo r octets (Some (Ok found))
IsHeard r octets (Some (Err BadReply)) =
    ((reply : Reply) → ¬ GivesReply octets reply) ⊎ ReportsSo r octets (Some (Err BadReply))
IsHeard r octets (Some (Err Memory)) = IsReplyCause octets cause.Memory
IsHeard r octets (Some (Err (Error status index))) = ReportsSo r octets (Some (Err (Error status index)))
IsHeard r octets (Some (Err (Timeout tries))) = ⊥
IsHeard r octets (Some (Err NotIncreasing)) = ⊥

-- How an ask ends by a datagram that gives no reply, for this cause.
abbrev pub fault_of : DropCause → ManagerFault
fault_of cause.Memory = Memory
fault_of cause.TooLong = BadReply
fault_of cause.Malformed = BadReply
fault_of cause.BadVersion = BadReply
fault_of cause.BadKind = BadReply
