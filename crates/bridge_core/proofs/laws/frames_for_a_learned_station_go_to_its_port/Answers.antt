use Rattle.bridge_core.proofs.Relayed.{goes_alone, goes_nowhere}
use Rattle.bridge_core.proofs.laws.frames_for_a_learned_station_go_to_its_port.Goals as goal

pub returns-clause-alone : goal.returns-clause-alone
returns-clause-alone c = goes_alone

pub returns-clause-nowhere : goal.returns-clause-nowhere
returns-clause-nowhere c = goes_nowhere
