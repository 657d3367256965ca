use Rattle.std.proofs.Common.{ap, ◌∙◌, ℕ, List, length, replicate}
use Rattle.std.proofs.lemmas.List.{length-replicate}
use Rattle.std.specs.Prelude.{Option, None}
use Rattle.frame_core.specs.declared.bpdu.Bpdu.{Bpdu}
use Rattle.bridge_core.specs.Bridge.{BridgeState}
use Rattle.bridge_core.specs.Forwarding.{egress_of}
use Rattle.bridge_core.specs.Events.{data_result, after_forwarding}
use Rattle.bridge_core.proofs.bridge.pass_on.Goals as goal

pub returns-clause-gives : goal.returns-clause-gives
unfolding data_result
returns-clause-gives c =
    let ports = c.forward-egress.ensures.ports ∙ c.learn-no_room.ensures.ports in
    let bpdus = c.no_bpdus.ensures ∙ ap (λ (n : ℕ). replicate n None) (c.ports.ensures.count ∙ ports) in
    record {
      step = c.forward-egress.ensures.step ∙ ap (after_forwarding c.args.port c.args.frame.now.destination) c.learn-no_room.ensures.step;
      egress = c.forward-egress.ensures.egress ∙ ap (λ (b : BridgeState). egress_of b c.args.port c.args.frame.now.destination) c.learn-no_room.ensures.step;
      bpdus = bpdus;
      ports = ports;
      each = ap (λ (xs : List (Option Bpdu)). length xs) bpdus ∙ length-replicate _ None;
    }
