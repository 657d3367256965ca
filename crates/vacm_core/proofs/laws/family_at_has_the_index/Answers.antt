use Rattle.vacm_core.proofs.SameIndexes.{none_has_index, has_the_index}
use Rattle.vacm_core.proofs.laws.family_at_has_the_index.Goals as goal

pub returns-clause-none : goal.returns-clause-none
returns-clause-none c families numbers = none_has_index families numbers

pub returns-clause-some : goal.returns-clause-some
returns-clause-some c families numbers n e = has_the_index families numbers n e
