use Rattle.bridge_core.proofs.Tallied.{source_row, source_found, others_stay, unlearned}
use Rattle.bridge_core.proofs.laws.sources_are_learned.Goals as goal

pub returns-clause-found : goal.returns-clause-found
returns-clause-found c = source_found

pub returns-clause-row : goal.returns-clause-row
returns-clause-row c = source_row

pub returns-clause-others : goal.returns-clause-others
returns-clause-others c = others_stay

pub returns-clause-none : goal.returns-clause-none
returns-clause-none c = unlearned
