use Rattle.rstp_core.proofs.RunLaws.{leads_same}
use Rattle.rstp_core.proofs.legal.runs_keep_the_bridge.Goals as goal

pub returns : goal.returns
returns c = leads_same
