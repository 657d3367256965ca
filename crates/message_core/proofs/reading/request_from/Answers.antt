use Rattle.std.proofs.Common.{subst, sym, arith}
use Rattle.std.proofs.lemmas.Result.{err_from_is_err_and}
use Rattle.message_core.specs.FirstFault.{kind_of}
use Rattle.message_core.specs.declared.cause.DropCause.{DropCause}
use Rattle.message_core.specs.Message.{IsRequestTag, IsAnyNumber, IsRequest, IsCause}
use Rattle.ber_core.proofs.Octets.{octets_from}
use Rattle.message_core.proofs.Causes.{request_tags}
use Rattle.message_core.proofs.Growth.{grows_in_pdu}
use Rattle.message_core.proofs.reading.request_from.Goals as goal

pub returns-in_err-bindings-clause-memory : goal.returns-in_err-bindings-clause-memory
returns-in_err-bindings-clause-memory c =
    let p = err_from_is_err_and c.from_residual-in_err-bindings.result c.from_residual-in_err-bindings.ensures.1 in
    let h = c.in_ok-head.head in
    let n = c.in_ok-numbers.numbers in
    let d = c.args.datagram.now in
    let fits = octets_from d (λ i. omega (arith, c.type_inv.datagram i)) in
    rw (p.1, p.2) (λ wanted. subst (λ (e : DropCause). IsCause d e) (sym wanted)
    (grows_in_pdu kind_of IsRequestTag IsAnyNumber IsRequest request_tags d (h.community, h.tag.0, h.body.now, h.after_pdu.now, h.after_message.now) c.in_ok-kind.kind n.id n.first n.second n.after.now fits c.in_ok-head.ensures.exact c.in_ok-kind.ensures.exact c.in_ok-numbers.ensures.exact tt (c.in_err-bindings.ensures.memory wanted)))
