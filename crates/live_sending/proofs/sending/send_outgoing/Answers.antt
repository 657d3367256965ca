use Rattle.live_sending.specs.Packets.{bpdu_packets, delivery_packets}
use Rattle.live_sending.proofs.Sends.{sends_then, sends_stop}
use Rattle.live_sending.proofs.sending.send_outgoing.Goals as goal

pub returns-in-Ok-clause-sends : goal.returns-in-Ok-clause-sends
returns-in-Ok-clause-sends g c =
    sends_then g.W.Wire.went g.met.W.Wire.goes_on _ _ _ (delivery_packets c.args.peers.now c.args.delivery) (bpdu_packets c.args.source c.args.peers.now c.args.bpdus.now) _ c.in-Ok.ensures.sends c.send_bpdus.ensures.sends

pub returns-in-Err-clause-sends : goal.returns-in-Err-clause-sends
returns-in-Err-clause-sends g c =
    sends_stop g.W.Wire.went _ _ (delivery_packets c.args.peers.now c.args.delivery) (bpdu_packets c.args.source c.args.peers.now c.args.bpdus.now) c.in-Err.fault c.in-Err.ensures.sends
