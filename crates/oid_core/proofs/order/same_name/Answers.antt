use Rattle.std.proofs.Common.{◌∙◌}
use Rattle.oid_core.proofs.OrderLaws.{eq_test}
use Rattle.oid_core.proofs.order.same_name.Goals as goal

pub returns-clause-test : goal.returns-clause-test
returns-clause-test c = c.eq.ensures ∙ eq_test c.args.a.now c.args.b.now
