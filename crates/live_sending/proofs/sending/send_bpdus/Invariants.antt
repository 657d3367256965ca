use Rattle.std.specs.Prelude.{◌≡◌, None, take}
use Rattle.live_sending.specs.Packets.{bpdu_packets}
use Rattle.live_sending.specs.Sending.{Sends}
use Rattle.live_sending.proofs.sending.send_bpdus.Given as goal

abbrev pub invariant-loop-i : goal.invariant-loop-i
invariant-loop-i g l =
    record {
      sends : Sends g.W.Wire.went l.initial.wire (bpdu_packets l.source l.peers (take l.i l.bpdus)) None l.wire;
      failures : g.W.Wire.failures l.wire ≡ g.W.Wire.failures l.initial.wire;
    }
