use Rattle.bridge_core.proofs.Relayed.{lists, goes_listed}
use Rattle.bridge_core.proofs.laws.listed_frames_go_out_by_their_ports.Goals as goal

pub returns-clause-ports : goal.returns-clause-ports
returns-clause-ports c = lists

pub returns-clause-list : goal.returns-clause-list
returns-clause-list c = goes_listed
