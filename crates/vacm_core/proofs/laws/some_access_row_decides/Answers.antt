use Rattle.vacm_core.specs.Access.{candidate}
use Rattle.vacm_core.proofs.Decided.{none_where_none_passes, some_is_unbeaten}
use Rattle.vacm_core.specs.Orders.{access_order}
use Rattle.vacm_core.proofs.laws.some_access_row_decides.Goals as goal

pub returns-clause-none : goal.returns-clause-none
returns-clause-none c rows ask group = none_where_none_passes (access_order ask) (candidate ask group) rows

pub returns-clause-some : goal.returns-clause-some
returns-clause-some c rows ask group n e = some_is_unbeaten (access_order ask) (candidate ask group) rows n e
