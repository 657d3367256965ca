use Rattle.rstp_core.proofs.TreeLaws.{own_root}
use Rattle.rstp_core.proofs.legal.root_is_this_bridge.Goals as goal

pub returns : goal.returns
returns c = own_root
