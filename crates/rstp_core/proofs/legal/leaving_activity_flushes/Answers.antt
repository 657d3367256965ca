use Rattle.rstp_core.proofs.TreeLaws.{leaving_flushes}
use Rattle.rstp_core.proofs.legal.leaving_activity_flushes.Goals as goal

pub returns : goal.returns
returns c = λ h s r t u out. leaving_flushes s r t u h out
