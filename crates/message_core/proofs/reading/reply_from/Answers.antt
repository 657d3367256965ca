use Rattle.std.proofs.Common.{subst, sym, arith, rules, FitsSigned, w32}
use Rattle.std.proofs.lemmas.Int.{to_z-of_z}
use Rattle.std.proofs.lemmas.Result.{err_from_is_err_and}
use Rattle.message_core.specs.FirstFault.{response_of}
use Rattle.message_core.specs.declared.cause.DropCause.{DropCause}
use Rattle.message_core.specs.Message.{IsResponseTag, IsStatusCode, GivesReply, IsReplyCause}
use Rattle.ber_core.proofs.Octets.{octets_from}
use Rattle.message_core.proofs.Requests.{status_is}
use Rattle.message_core.proofs.Causes.{response_tags}
use Rattle.message_core.proofs.Growth.{grows_in_pdu}
use Rattle.message_core.proofs.reading.reply_from.Goals as goal

pub returns-in_err-bindings-clause-memory : goal.returns-in_err-bindings-clause-memory
returns-in_err-bindings-clause-memory c =
    let p = err_from_is_err_and c.from_residual-in_err-bindings.result c.from_residual-in_err-bindings.ensures.1 in
    let h = c.in_ok-head.head in
    let n = c.in_ok-numbers.numbers in
    let d = c.args.datagram.now in
    let first_fits : FitsSigned w32 n.first = search rules in
    let status_read = simp to_z-of_z at c.in_ok-status.ensures.exact in
    let fits = octets_from d (λ i. omega (arith, c.type_inv.datagram i)) in
    rw (p.1, p.2) (λ wanted. subst (λ (e : DropCause). IsReplyCause d e) (sym wanted)
    (grows_in_pdu response_of IsResponseTag IsStatusCode GivesReply response_tags d (h.community, h.tag.0, h.body.now, h.after_pdu.now, h.after_message.now) tt n.id n.first n.second n.after.now fits c.in_ok-head.ensures.exact c.in_ok-expect_response.ensures.exact c.in_ok-numbers.ensures.exact (c.in_ok-status.status, status_is n.first c.in_ok-status.status status_read) (c.in_err-bindings.ensures.memory wanted)))
