use Rattle.rstp_core.proofs.RunLaws.{leads_legal}
use Rattle.rstp_core.proofs.legal.runs_keep_legal.Goals as goal

pub returns : goal.returns
returns c = leads_legal
