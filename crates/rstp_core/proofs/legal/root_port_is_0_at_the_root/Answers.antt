use Rattle.rstp_core.proofs.TreeLaws.{root_port_zero}
use Rattle.rstp_core.proofs.legal.root_port_is_0_at_the_root.Goals as goal

pub returns : goal.returns
returns c = root_port_zero
