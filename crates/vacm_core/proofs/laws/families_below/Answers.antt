use Rattle.vacm_core.proofs.HiddenNames.{some_below, all_below}
use Rattle.vacm_core.proofs.laws.families_below.Goals as goal

pub returns-clause-some : goal.returns-clause-some
returns-clause-some c view prefix row = some_below view prefix row

pub returns-clause-all : goal.returns-clause-all
returns-clause-all c view prefix row = all_below view prefix row
