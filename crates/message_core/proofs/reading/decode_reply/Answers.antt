use Rattle.std.proofs.Common.{arith}
use Rattle.ber_core.proofs.Octets.{octets_from}
use Rattle.message_core.proofs.Causes.{reply_reader}
use Rattle.message_core.proofs.Decoded.{found_by, only_by, cause_by, exactly_by}
use Rattle.message_core.proofs.Encodable.{reply_encodable_by}
use Rattle.message_core.proofs.reading.decode_reply.Goals as goal

pub returns-clause-reply : goal.returns-clause-reply
returns-clause-reply c = found_by reply_reader c.args.datagram.now c.reply_from.result (octets_from c.args.datagram.now (λ i. omega (arith, c.type_inv.datagram i))) c.reply_from.ensures.exact

pub returns-clause-only : goal.returns-clause-only
returns-clause-only c = only_by reply_reader c.args.datagram.now c.reply_from.result c.reply_from.ensures.exact

pub returns-clause-cause : goal.returns-clause-cause
returns-clause-cause c = cause_by reply_reader c.args.datagram.now c.reply_from.result (octets_from c.args.datagram.now (λ i. omega (arith, c.type_inv.datagram i))) c.reply_from.ensures.exact c.reply_from.ensures.memory

pub returns-clause-exactly : goal.returns-clause-exactly
returns-clause-exactly c = exactly_by reply_reader c.args.datagram.now c.reply_from.result (octets_from c.args.datagram.now (λ i. omega (arith, c.type_inv.datagram i))) c.reply_from.ensures.exact

pub returns-clause-encodable : goal.returns-clause-encodable
returns-clause-encodable c = reply_encodable_by c.args.datagram.now c.reply_from.result (returns-clause-reply c)
