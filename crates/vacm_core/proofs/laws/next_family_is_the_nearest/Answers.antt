use Rattle.vacm_core.specs.FamilyIndex.{is_behind}
use Rattle.vacm_core.proofs.Decided.{none_where_none_passes, some_is_unbeaten}
use Rattle.vacm_core.proofs.FamilyIndexes.{index_order}
use Rattle.vacm_core.proofs.laws.next_family_is_the_nearest.Goals as goal

pub returns-clause-none : goal.returns-clause-none
returns-clause-none c families numbers = none_where_none_passes index_order (is_behind numbers) families

pub returns-clause-some : goal.returns-clause-some
returns-clause-some c families numbers n e = some_is_unbeaten index_order (is_behind numbers) families n e
