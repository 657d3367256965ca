use Rattle.std.proofs.Common.{rules, ◌≤◌, length}
use Rattle.std.specs.Prelude.{IfOk, IfErr}
use Rattle.oid_core.specs.Fault.{IsListFault}
use Rattle.oid_core.specs.Text.{IsDotted, IsTextFault}
use Rattle.oid_core.proofs.Texts.{parse_only, parse_inline, list_fault}
use Rattle.oid_core.proofs.oid.Oid.parse.Goals as goal

pub returns-in_err-numbers-clause-only : goal.returns-in_err-numbers-clause-only
returns-in_err-numbers-clause-only c =
    let found : IfOk c.from_residual.result (λ o. IsDotted c.args.text.now o) = search rules in
    let fault : IfErr c.from_residual.result (λ f. IsTextFault c.args.text.now f) = search rules in
    parse_only c.args.text.now c.from_residual.result found fault

pub returns-clause-only : goal.returns-clause-only
returns-clause-only c =
    let text = c.args.text.now in
    let numbers = c.in_ok-numbers.numbers.items in
    let found : IfOk c.from_slice.result (λ o. IsDotted text o) = search rules in
    let few : length numbers ≤ 128 = rw (← c.as_slice.ensures.value) c.as_slice.ensures.fits in
    let listed : IfErr c.from_slice.result (λ f. IsListFault numbers f) = rw (← c.as_slice.ensures.value) c.from_slice.ensures.fault in
    parse_only text c.from_slice.result found (list_fault text numbers c.from_slice.result c.in_ok-numbers.ensures.found few listed)

pub returns-in_err-numbers-clause-inline : goal.returns-in_err-numbers-clause-inline
returns-in_err-numbers-clause-inline c =
    let fault : IfErr c.from_residual.result (λ f. IsTextFault c.args.text.now f) = search rules in
    parse_inline c.args.text.now c.from_residual.result fault

pub returns-clause-inline : goal.returns-clause-inline
returns-clause-inline c =
    let text = c.args.text.now in
    let numbers = c.in_ok-numbers.numbers.items in
    let few : length numbers ≤ 128 = rw (← c.as_slice.ensures.value) c.as_slice.ensures.fits in
    let listed : IfErr c.from_slice.result (λ f. IsListFault numbers f) = rw (← c.as_slice.ensures.value) c.from_slice.ensures.fault in
    parse_inline text c.from_slice.result (list_fault text numbers c.from_slice.result c.in_ok-numbers.ensures.found few listed)
