use Rattle.bridge_core.proofs.Relayed.{flooded, floods}
use Rattle.bridge_core.proofs.laws.frames_for_all_are_flooded.Goals as goal

pub returns-clause-ports : goal.returns-clause-ports
returns-clause-ports c = floods

pub returns-clause-list : goal.returns-clause-list
returns-clause-list c = flooded
