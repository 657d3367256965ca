use Rattle.setphase_core.proofs.Opened.{opening_count, opening_is}
use Rattle.setphase_core.proofs.laws.opening_bridge_shows_75.Goals as goal

pub returns-clause-count : goal.returns-clause-count
returns-clause-count c = opening_count

pub returns-clause-instances : goal.returns-clause-instances
returns-clause-instances c = opening_is
