use Rattle.rstp_core.proofs.TreeLaws.{no_root_port}
use Rattle.rstp_core.proofs.legal.no_root_port_at_the_root.Goals as goal

pub returns : goal.returns
returns c = no_root_port
