use Rattle.oid_core.proofs.OrderLaws.{any_two, not_itself, before_then}
use Rattle.oid_core.proofs.laws.order_is_total.Goals as goal

pub returns-clause-one : goal.returns-clause-one
returns-clause-one c = any_two

pub returns-clause-strict : goal.returns-clause-strict
returns-clause-strict c = not_itself

pub returns-clause-through : goal.returns-clause-through
returns-clause-through c = before_then
