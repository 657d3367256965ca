use Rattle.std.proofs.Common.{FitsSigned, w32, arith, rules}
use Rattle.std.proofs.lemmas.Int.{to_z-of_z}
use Rattle.message_core.specs.Canon.{canon_reply, answer_to}
use Rattle.message_core.specs.declared.reply.Reply.{Reply}
use Rattle.agent_core.proofs.Sizes.{sent_fits, sent_long, end_of}
use Rattle.agent_core.proofs.buffer.put_sized.Goals as goal

pub returns-in-Ok-clause-sent : goal.returns-in-Ok-clause-sent
returns-in-Ok-clause-sent c =
    let r : Reply = answer_to c.args.request.now c.args.status c.args.index c.args.bindings.now in
    let index_fits : FitsSigned w32 c.args.index = search rules in
    let ok = simp to_z-of_z at c.in-Ok.ensures.ok in
    let at_end = simp to_z-of_z at c.in-Ok.ensures.at_end in
    rw (to_z-of_z w32 c.args.index index_fits)
    (sent_fits r _ _ (omega (arith, at_end)) (end_of c.in-Ok.start (canon_reply r) _ at_end ok) (omega (arith, at_end)))

pub returns-in-Err-clause-sent : goal.returns-in-Err-clause-sent
returns-in-Err-clause-sent c =
    let r : Reply = answer_to c.args.request.now c.args.status c.args.index c.args.bindings.now in
    let index_fits : FitsSigned w32 c.args.index = search rules in
    let too_big = simp to_z-of_z at c.in-Err.ensures.too_big in
    sent_long r _ _ too_big c.put_too_big.ensures.reply c.put_too_big.ensures.len
