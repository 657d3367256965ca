use Rattle.std.proofs.Common.{arith}
use Rattle.ber_core.proofs.Unsigned.{whole_is, whole_below, negative, too_large}
use Rattle.ber_core.proofs.reading.unsigned_of.Goals as goal
use Rattle.ber_core.proofs.reading.unsigned_of.Goals.{then-first-ne0-via-then-first-ne0, then-first-ne0-via-else-first-ne0+then-digits-width}

pub returns-then-first-ge128-clause-only : goal.returns-then-first-ge128-clause-only
returns-then-first-ge128-clause-only c = λ n u. negative c.args.content.now n (λ i. omega (arith, c.type_inv.content i)) c.if-first-ge128.true u.value

pub returns-then-content-width-clause-found : goal.returns-then-content-width-clause-found
returns-then-content-width-clause-found c =
    whole_is c.args.width c.number_of.result c.args.content.now (λ i. omega (arith, c.type_inv.content i)) (omega arith) c.if-first-ge128.false c.if-content-width.true c.number_of.ensures.value

pub returns-then-content-width-clause-fits : goal.returns-then-content-width-clause-fits
returns-then-content-width-clause-fits c =
    omega (arith, whole_below c.args.width c.args.content.now (λ i. omega (arith, c.type_inv.content i)) c.if-content-width.true, c.number_of.ensures.value)

pub returns-then-first-ne0-clause-only : goal.returns-then-first-ne0-clause-only
returns-then-first-ne0-clause-only c = λ n u.
    elim c.then-first-ne0.branch [
      | then-first-ne0-via-then-first-ne0 w ↦ too_large c.args.width c.args.content.now n c.if-content-width.false c.if-first-ge128.false w.if-first-ne0.true u
      | then-first-ne0-via-else-first-ne0+then-digits-width w ↦ omega (arith, u.few, w.if-digits-width.true)
    ]
