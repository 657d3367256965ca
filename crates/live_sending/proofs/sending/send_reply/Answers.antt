use Rattle.std.proofs.Common.{◌≢◌, length, arith}
use Rattle.std.proofs.lemmas.Bool.Decides.{nat_tests}
use Rattle.live_sending.proofs.Sends.{sent_reply}
use Rattle.live_sending.proofs.sending.send_reply.Goals as goal

pub returns-clause-sends : goal.returns-clause-sends
returns-clause-sends g c =
    let some : length c.args.reply.now ≢ 0 = grind (arith, nat_tests) in
    sent_reply g.W.Wire.went _ _ c.args.peer c.args.reply.now c.send.result (omega (arith, some)) c.send.ensures.went
