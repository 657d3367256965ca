use Rattle.setphase_core.proofs.Ordered.{names_apart}
use Rattle.setphase_core.proofs.laws.names_are_apart.Goals as goal

pub returns : goal.returns
returns c = names_apart
