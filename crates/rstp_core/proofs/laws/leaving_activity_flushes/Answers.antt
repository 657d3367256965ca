use Rattle.rstp_core.proofs.RunLaws.{runs_legal}
use Rattle.rstp_core.proofs.TreeLaws.{leaving_flushes}
use Rattle.rstp_core.proofs.laws.leaving_activity_flushes.Goals as goal

pub returns : goal.returns
returns c = λ a cs hs s r t u h out run. leaving_flushes s r t u h out (runs_legal a cs hs s t run)
