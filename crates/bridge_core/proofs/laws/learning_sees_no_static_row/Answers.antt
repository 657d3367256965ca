use Rattle.bridge_core.proofs.StaticRows.{learns_alike, keeps_statics}
use Rattle.bridge_core.proofs.laws.learning_sees_no_static_row.Goals as goal

pub returns-clause-learned : goal.returns-clause-learned
returns-clause-learned c = learns_alike

pub returns-clause-statics : goal.returns-clause-statics
returns-clause-statics c = keeps_statics
