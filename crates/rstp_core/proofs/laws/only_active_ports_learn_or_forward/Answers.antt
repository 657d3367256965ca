use Rattle.rstp_core.proofs.RunLaws.{runs_legal}
use Rattle.rstp_core.proofs.laws.only_active_ports_learn_or_forward.Goals as goal

pub returns : goal.returns
returns c = λ a cs hs s t run. (runs_legal a cs hs s t run).active
