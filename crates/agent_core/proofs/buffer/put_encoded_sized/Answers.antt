use Rattle.std.proofs.Common.{pos, arith}
use Rattle.message_core.specs.Canon.{canon_reply, answer_to}
use Rattle.message_core.specs.declared.reply.Reply.{Reply}
use Rattle.message_core.specs.declared.status.ErrorStatus.TheVariants.{NoError}
use Rattle.agent_core.proofs.Sizes.{sent_fits, sent_long, end_of}
use Rattle.agent_core.proofs.buffer.put_encoded_sized.Goals as goal

pub returns-in-Ok-clause-sent : goal.returns-in-Ok-clause-sent
returns-in-Ok-clause-sent c =
    let r : Reply = answer_to c.args.request.now NoError (pos 0) c.args.bindings.now in
    let e = c.in-Ok.ensures in
    sent_fits r _ _ (omega (arith, e.at_end)) (end_of c.in-Ok.start (canon_reply r) _ e.at_end e.ok) (omega (arith, e.at_end))

pub returns-in-Err-clause-sent : goal.returns-in-Err-clause-sent
returns-in-Err-clause-sent c =
    let r : Reply = answer_to c.args.request.now NoError (pos 0) c.args.bindings.now in
    sent_long r _ _ c.in-Err.ensures.too_big c.put_too_big.ensures.reply c.put_too_big.ensures.len
