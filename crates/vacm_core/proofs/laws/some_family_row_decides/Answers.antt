use Rattle.vacm_core.specs.Families.{matches}
use Rattle.vacm_core.proofs.Decided.{none_where_none_passes, some_is_unbeaten}
use Rattle.vacm_core.specs.Orders.{family_order}
use Rattle.vacm_core.proofs.laws.some_family_row_decides.Goals as goal

pub returns-clause-none : goal.returns-clause-none
returns-clause-none c families view name = none_where_none_passes family_order (matches view name) families

pub returns-clause-some : goal.returns-clause-some
returns-clause-some c families view name n e = some_is_unbeaten family_order (matches view name) families n e
