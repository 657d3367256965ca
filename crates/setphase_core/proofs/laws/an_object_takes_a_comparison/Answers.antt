use Rattle.setphase_core.proofs.Searches.{least_some}
use Rattle.setphase_core.proofs.laws.an_object_takes_a_comparison.Goals as goal

pub returns : goal.returns
returns c = least_some
