use Rattle.configuration.proofs.BoundLemmas.{within_bounds}
use Rattle.configuration.proofs.laws.configurations_are_within_bounds.Goals as goal

pub returns : goal.returns
returns c = within_bounds
