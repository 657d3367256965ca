use Rattle.rstp_core.proofs.TreeLaws.{hears_another}
use Rattle.rstp_core.proofs.legal.root_port_hears_another.Goals as goal

pub returns : goal.returns
returns c = hears_another
