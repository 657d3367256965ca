-- Replies to requests that read, over more instances and by more views.
use Rattle.std.proofs.Common.{◌≡◌, ℕ, List, Option, Some, None, Result, Ok, Err, IfOk, subst}
use Rattle.std.specs.declared.alloc.AllocError.{AllocError}
use Rattle.message_core.specs.declared.reply.Reply.{Reply}
use Rattle.message_core.specs.declared.request.Request.{Request}
use Rattle.agent_core.specs.Answers.{IsSent, IsSentBy, IsSentRead}
use Rattle.agent_core.specs.declared.sent_reply.ReadReply.{ReadReply}
use Rattle.agent_core.specs.declared.sent_reply.SentReply.{SentReply}

sent_more : (request : Request) (unnamed : Option ℕ) (sent : SentReply) (octets : List ℕ) (reply other : Reply) (lacks lacks_too : ℕ → Type 0) → reply ≡ other → ((i : ℕ) → lacks i → lacks_too i) →
    IsSentBy reply request lacks unnamed sent octets → IsSentBy other request lacks_too unnamed sent octets
sent_more request None sent octets reply other lacks lacks_too same more h = subst (λ (r : Reply). IsSent r sent octets) same h
sent_more request (Some i) sent octets reply other lacks lacks_too same more h = (h.0, more i h.1)

pub read_more : (request : Request) (result : Result ReadReply AllocError) (octets : List ℕ) {reply other : Reply} {lacks lacks_too : ℕ → Type 0} → reply ≡ other → ((i : ℕ) → lacks i → lacks_too i) →
    IfOk result (λ (read : ReadReply). IsSentRead reply request lacks read octets) → IfOk result (λ (read : ReadReply). IsSentRead other request lacks_too read octets)
read_more request (Ok read) octets same more h = sent_more request read.unnamed read.sent octets _ _ _ _ same more h
read_more request (Err e) octets same more h = h
