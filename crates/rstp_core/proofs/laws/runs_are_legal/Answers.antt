use Rattle.rstp_core.proofs.RunLaws.{runs_legal}
use Rattle.rstp_core.proofs.laws.runs_are_legal.Goals as goal

pub returns : goal.returns
returns c = runs_legal
