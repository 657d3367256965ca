use Rattle.oid_core.proofs.OrderLaws.{lt_before, before_lt, eq_same, same_eq, prefix_found, prefix_only}
use Rattle.oid_core.proofs.laws.tests_decide.Goals as goal

pub returns-clause-before : goal.returns-clause-before
returns-clause-before c = λ a b. (lt_before a b, before_lt a b)

pub returns-clause-same : goal.returns-clause-same
returns-clause-same c = λ a b. (eq_same a b, same_eq a b)

pub returns-clause-prefix : goal.returns-clause-prefix
returns-clause-prefix c = λ front name. (prefix_found front name, prefix_only front name)
