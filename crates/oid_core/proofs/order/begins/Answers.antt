use Rattle.std.proofs.Common.{◌≡◌, ◌∙◌, sym}
use Rattle.oid_core.specs.Order.{is_prefix}
use Rattle.oid_core.proofs.OrderLaws.{prefix_found, prefix_only, prefix_test}
use Rattle.oid_core.proofs.order.begins.Goals as goal

pub returns-clause-test : goal.returns-clause-test
returns-clause-test c = c.starts_with.ensures.value ∙ prefix_test c.args.prefix.now c.args.name.now

pub returns-clause-value : goal.returns-clause-value
returns-clause-value c =
    let test : c.starts_with.result ≡ is_prefix c.args.prefix.now c.args.name.now = returns-clause-test c in
    (λ h. prefix_found c.args.prefix.now c.args.name.now (sym test ∙ h), λ h. test ∙ prefix_only c.args.prefix.now c.args.name.now h)
