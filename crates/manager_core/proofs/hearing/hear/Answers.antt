use Rattle.std.proofs.Common.{◌≢◌, List, ℕ, Err, Some, inl}
use Rattle.message_core.specs.declared.cause.DropCause.{DropCause}
use Rattle.message_core.specs.declared.cause.DropCause.TheVariants as cause
use Rattle.message_core.specs.declared.reply.Reply.{Reply}
use Rattle.message_core.specs.declared.request.Request.{Request}
use Rattle.message_core.specs.Message.{GivesReply, IsReplyCause}
use Rattle.manager_core.specs.Replies.{IsHeard, fault_of}
use Rattle.manager_core.proofs.hearing.hear.Goals as goal

refused : (r : Request) (octets : List ℕ) (why : DropCause) → IsReplyCause octets why → (why ≢ cause.Memory → (reply : Reply) → ¬ GivesReply octets reply) → IsHeard r octets (Some (Err (fault_of why)))
refused r octets cause.Memory is other = is
refused r octets cause.TooLong is other = inl (other (λ e. cc))
refused r octets cause.Malformed is other = inl (other (λ e. cc))
refused r octets cause.BadVersion is other = inl (other (λ e. cc))
refused r octets cause.BadKind is other = inl (other (λ e. cc))

pub returns-in-Err-clause-heard : goal.returns-in-Err-clause-heard
returns-in-Err-clause-heard c =
    rw c.fault_of.ensures (refused c.args.request.now c.args.datagram.now c.in-Err.cause c.in-Err.ensures.cause (λ other reply gives. c.in-Err.ensures.only reply gives (λ e. other cc)))
