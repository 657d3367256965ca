use Rattle.std.specs.Prelude.{◌≡◌, None, take}
use Rattle.live_sending.specs.Packets.{frame_packets}
use Rattle.live_sending.specs.Sending.{Sends}
use Rattle.live_sending.proofs.sending.send_frame.Given as goal

abbrev pub invariant-loop-port : goal.invariant-loop-port
invariant-loop-port g l =
    record {
      sends : Sends g.W.Wire.went l.initial.wire (frame_packets l.peers (take l.port-index l.ports) l.octets) None l.wire;
      failures : g.W.Wire.failures l.wire ≡ g.W.Wire.failures l.initial.wire;
    }
