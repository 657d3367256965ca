use Rattle.std.proofs.Common.{◌∙◌, arith}
use Rattle.history_core.proofs.Encodings.{written}
use Rattle.history_core.proofs.duplicate.encoding_over.Goals as goal

pub returns-in_ok-from_slice-in-Ok-clause-value : goal.returns-in_ok-from_slice-in-Ok-clause-value
returns-in_ok-from_slice-in-Ok-clause-value c =
    written c.args.request.now c.in_ok-from_slice-in-Ok.field-0 c.requires.encodable (c.known_request.ensures c.requires.encodable) c.requires.some
    (omega (arith, c.in-Ok.ensures.fits, c.requires.most)) (c.in_ok-from_slice-in-Ok.ensures.value ∙ c.in-Ok.ensures.ok)
