use Rattle.std.proofs.Common.{arith}
use Rattle.std.proofs.lemmas.Result.{err_from_is_err_and}
use Rattle.ber_core.proofs.Octets.{octets_from}
use Rattle.message_core.proofs.Requests.{community_long}
use Rattle.message_core.proofs.reading.head_from.Goals as goal

pub returns-in_err-community-clause-memory : goal.returns-in_err-community-clause-memory
returns-in_err-community-clause-memory c =
    let p = err_from_is_err_and c.from_residual-in_err-community.result c.from_residual-in_err-community.ensures.1 in
    let s = c.in_ok-start.start in
    let fits = octets_from c.args.datagram.now (λ i. omega (arith, c.type_inv.datagram i)) in
    rw p.1 (λ wanted. community_long c.args.datagram.now (s.community.now, s.after_community.now, s.after_message.now) fits c.in_ok-start.ensures.exact c.in_err-community.ensures.inline)
