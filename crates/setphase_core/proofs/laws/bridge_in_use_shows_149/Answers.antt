use Rattle.setphase_core.proofs.InUse.{in_use_count, in_use_is}
use Rattle.setphase_core.proofs.laws.bridge_in_use_shows_149.Goals as goal

pub returns-clause-count : goal.returns-clause-count
returns-clause-count c = in_use_count

pub returns-clause-instances : goal.returns-clause-instances
returns-clause-instances c = in_use_is
