use Rattle.std.proofs.Common.{◌≤◌, length, refl, arith}
use Rattle.configuration.proofs.reading.text_fault.Goals as goal

pub returns-in-Some-clause-text : goal.returns-in-Some-clause-text
returns-in-Some-clause-text c =
    let start = c.in-Some.ensures.range.0 in
    let behind = c.requires.0 in
    let end = c.requires.1 in
    let within : c.in-Some.span.start ≤ length c.args.text.now = omega (arith, start, behind, end) in
    λ text. (
      c.line_at.result,
      refl,
      record { index = c.in-Some.span.start; within = within; is = c.line_at.ensures },
    )
