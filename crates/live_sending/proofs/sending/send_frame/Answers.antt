use Rattle.std.proofs.Common.{◌≡◌, arith, rules, sym, subst}
use Rattle.std.specs.Prelude.{Option, Some}
use Rattle.wire_core.specs.declared.wire.WireFault.{WireFault}
use Rattle.live_sending.specs.Packets.{frame_packets}
use Rattle.live_sending.specs.Sending.{fault_in, Sends}
use Rattle.live_sending.proofs.Sends.{frame_goes, frame_stops}
use Rattle.live_sending.proofs.sending.send_frame.Goals as goal

pub returns-in_err-send_to_port-clause-sends : goal.returns-in_err-send_to_port-clause-sends
returns-in_err-send_to_port-clause-sends g c =
    let fault = c.in_err-send_to_port.field-0.0 in
    let is : fault_in c.from_residual.result ≡ Some fault = search rules in
    let step = c.in_err-send_to_port.ensures.sends in
    subst (λ (f : Option WireFault). Sends g.W.Wire.went c.args.wire.now (frame_packets c.args.peers.now c.args.ports.now c.args.octets.now) f c.send_to_port.new.wire) (sym is)
    (frame_stops g.W.Wire.went g.met.W.Wire.goes_on _ _ _ c.args.peers.now c.args.ports.now c.loop-port.port-index _ 0 c.args.octets.now fault (omega arith) c.from.ensures c.loop-port.invariant.sends step)

pub loop-port-preserved : goal.loop-port-preserved
loop-port-preserved g c =
    let step = c.in_ok-send_to_port.ensures in
    let before = c.loop-port.invariant in
    record {
      sends = frame_goes g.W.Wire.went g.met.W.Wire.goes_on _ _ _ c.args.peers.now c.args.ports.now c.loop-port.port-index _ 0 c.args.octets.now (omega arith) c.from.ensures before.sends step.sends;
      failures = search rules;
    }
