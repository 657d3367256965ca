use Rattle.setphase_core.proofs.Rising.{instances_rising}
use Rattle.setphase_core.proofs.laws.instances_rise.Goals as goal

pub returns : goal.returns
returns c = instances_rising
