use Rattle.live_sending.proofs.Sends.{sent_to}
use Rattle.live_sending.proofs.sending.send_to_port.Goals as goal

pub returns-in-Some-clause-sends : goal.returns-in-Some-clause-sends
returns-in-Some-clause-sends g c = sent_to g.W.Wire.went _ _ _ c.in-Some.peer c.args.octets.now c.send.result c.in-Some.ensures c.send.ensures.went
