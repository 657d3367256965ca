use Rattle.std.proofs.Common.{ap, ◌∙◌, sym, false, refl, ℕ, List, length, replicate}
use Rattle.std.proofs.lemmas.List.{length-replicate}
use Rattle.std.specs.Prelude.{Option, None}
use Rattle.frame_core.specs.declared.bpdu.Bpdu.{Bpdu}
use Rattle.bridge_core.specs.Events.{reception_result, after_reception}
use Rattle.bridge_core.proofs.Changes.{gives_same, framed_on, framed_off}
use Rattle.bridge_core.proofs.bridge.take_frame.Goals as goal

pub returns-then-is_on-clause-gives : goal.returns-then-is_on-clause-gives
returns-then-is_on-clause-gives c =
    let given = reception_result c.args.port c.args.frame.now c.args.frame.now.bpdu c.take_received.result.no_room in
    gives_same _ _ _ _ _ _ (ap given c.receive.ensures.step ∙ sym (framed_on c.args.bridge.now c.args.port c.args.frame.now c.take_received.result.no_room (sym c.is_on.ensures ∙ c.if-is_on.true))) c.receive.ensures.ports c.take_received.ensures.gives

pub returns-then-is_on-clause-note : goal.returns-then-is_on-clause-note
unfolding after_reception
returns-then-is_on-clause-note c = λ e.
    let h = c.take_received.ensures.note e in
    record { on = sym c.is_on.ensures ∙ c.if-is_on.true; plain = h.0; asks = rw c.receive.ensures.step at h.1 }

pub returns-else-is_on-clause-gives : goal.returns-else-is_on-clause-gives
returns-else-is_on-clause-gives c =
    let bpdus = c.no_bpdus.ensures ∙ ap (λ (n : ℕ). replicate n None) c.ports.ensures.count in
    let same = c.args.bridge.now in
    gives_same _ _ same same same _ (sym (framed_off c.args.bridge.now c.args.port c.args.frame.now false (sym c.is_on.ensures ∙ c.if-is_on.false))) refl (record {
      step = refl;
      egress = c.new.ensures;
      bpdus = bpdus;
      ports = refl;
      each = ap (λ (xs : List (Option Bpdu)). length xs) bpdus ∙ length-replicate _ None;
    })
