use Rattle.setphase_core.proofs.Passed.{nothing_missed}
use Rattle.setphase_core.proofs.laws.nothing_shown_is_missed.Goals as goal

pub returns : goal.returns
returns c = nothing_missed
