use Rattle.std.proofs.Common.{◌≡◌, ◌∙◌, sym}
use Rattle.oid_core.specs.Order.{name_lt}
use Rattle.oid_core.proofs.OrderLaws.{name_lt-cmp, lt_before, before_lt}
use Rattle.oid_core.proofs.order.precedes.Goals as goal

pub returns-clause-test : goal.returns-clause-test
returns-clause-test c = c.is_lt.ensures ∙ name_lt-cmp c.args.a.now c.args.b.now c.cmp.result c.cmp.ensures

pub returns-clause-value : goal.returns-clause-value
returns-clause-value c =
    let test : c.is_lt.result ≡ name_lt c.args.a.now c.args.b.now = returns-clause-test c in
    (λ h. lt_before c.args.a.now c.args.b.now (sym test ∙ h), λ h. test ∙ before_lt c.args.a.now c.args.b.now h)
