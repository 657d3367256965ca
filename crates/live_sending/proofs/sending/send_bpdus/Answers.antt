use Rattle.std.proofs.Common.{◌≡◌, arith, rules, refl, sym, subst}
use Rattle.std.specs.Prelude.{Option, Some, None}
use Rattle.wire_core.specs.declared.wire.WireFault.{WireFault}
use Rattle.live_sending.specs.Packets.{bpdu_packets}
use Rattle.live_sending.specs.Sending.{fault_in, Sends}
use Rattle.live_sending.proofs.Sends.{bpdus_go, bpdus_stop}
use Rattle.live_sending.proofs.sending.send_bpdus.Goals as goal

pub returns-in_err-send_bpdu-clause-sends : goal.returns-in_err-send_bpdu-clause-sends
returns-in_err-send_bpdu-clause-sends g c =
    let fault = c.in_err-send_bpdu.field-0.0 in
    let is : fault_in c.from_residual.result ≡ Some fault = search rules in
    let step = c.in_err-send_bpdu.ensures.sends in
    subst (λ (f : Option WireFault). Sends g.W.Wire.went c.args.wire.now (bpdu_packets c.args.source c.args.peers.now c.args.bpdus.now) f c.send_bpdu.new.wire) (sym is)
    (bpdus_stop g.W.Wire.went g.met.W.Wire.goes_on _ _ _ c.args.source c.args.peers.now c.args.bpdus.now c.loop-i.i _ _ None fault (omega arith) refl (omega arith) c.loop-i.invariant.sends step)

pub loop-i-preserved : goal.loop-i-preserved
loop-i-preserved g c =
    let step = c.in_ok-send_bpdu.ensures in
    let before = c.loop-i.invariant in
    record {
      sends = bpdus_go g.W.Wire.went g.met.W.Wire.goes_on _ _ _ c.args.source c.args.peers.now c.args.bpdus.now c.loop-i.i _ _ None (omega arith) refl (omega arith) before.sends step.sends;
      failures = search rules;
    }
