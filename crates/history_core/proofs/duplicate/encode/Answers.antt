use Rattle.std.proofs.Common.{List, ◌∙◌, sym, subst, arith}
use Rattle.message_core.specs.declared.binding.Binding.{Binding}
use Rattle.message_core.specs.Encodable.{AreEncodable}
use Rattle.history_core.proofs.Encodings.{one_request, one_encoding}
use Rattle.history_core.proofs.duplicate.encode.Goals as goal

pub returns-in-Ok : goal.returns-in-Ok
returns-in-Ok c = λ kept i.
    let r = c.args.request.now in
    let all = subst (λ (bs : List Binding). AreEncodable bs) c.as_slice.ensures (c.are_encodable.ensures.0 c.if-not-are_encodable.false) in
    let written = c.in-Ok.ensures.ok in (
      λ is. one_request c.args.octets.now kept r i (c.known_request.ensures all) (omega (arith, c.in-Ok.ensures.fits))
          (sym (c.same_octets.ensures.0 is) ∙ written),
      λ same. c.same_octets.ensures.1 (written ∙ sym (one_encoding c.args.octets.now kept r i same)),
    )
