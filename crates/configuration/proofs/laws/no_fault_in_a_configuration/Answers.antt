use Rattle.configuration.proofs.NoFault.{no_fault}
use Rattle.configuration.proofs.laws.no_fault_in_a_configuration.Goals as goal

pub returns : goal.returns
returns c = no_fault
