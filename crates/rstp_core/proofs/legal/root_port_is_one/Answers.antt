use Rattle.rstp_core.proofs.TreeLaws.{one_root_port}
use Rattle.rstp_core.proofs.legal.root_port_is_one.Goals as goal

pub returns : goal.returns
returns c = one_root_port
