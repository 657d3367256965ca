use Rattle.rstp_core.proofs.RunLaws.{runs_legal, runs_few}
use Rattle.rstp_core.proofs.TreeLaws.{one_root_port}
use Rattle.rstp_core.proofs.laws.root_port_is_one.Goals as goal

pub returns : goal.returns
returns c = λ a cs hs s t few run. one_root_port s t (runs_legal a cs hs s t run) (runs_few a cs hs s t few run)
