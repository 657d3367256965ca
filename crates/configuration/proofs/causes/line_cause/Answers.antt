use Rattle.std.proofs.Common.{◌≤◌, length, refl, arith}
use Rattle.toml.specs.Errors.{IsMemory}
use Rattle.configuration.proofs.CauseLemmas.{there_is}
use Rattle.configuration.proofs.causes.line_cause.Goals as goal

pub returns-in-Some-clause-line : goal.returns-in-Some-clause-line
returns-in-Some-clause-line c =
    let start = c.in-Some.ensures.range.0 in
    let behind = c.requires.0 in
    let end = c.requires.1 in
    let within : c.in-Some.span.start ≤ length c.args.text.now = omega (arith, start, behind, end) in
    let other : ¬ IsMemory c.args.error.now = λ is. there_is c.in-Some.span (c.in-Some.ensures.none.1 is) in
    (other, (c.line_at.result, refl, record { index = c.in-Some.span.start; within = within; is = c.line_at.ensures }))
