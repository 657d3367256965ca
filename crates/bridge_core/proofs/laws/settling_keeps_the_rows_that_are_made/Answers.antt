use Rattle.bridge_core.proofs.StaticRows.{settled_made, settled_same}
use Rattle.bridge_core.proofs.laws.settling_keeps_the_rows_that_are_made.Goals as goal

pub returns-clause-made : goal.returns-clause-made
returns-clause-made c = settled_made

pub returns-clause-same : goal.returns-clause-same
returns-clause-same c = settled_same
