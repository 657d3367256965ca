use Rattle.std.proofs.Common.{◌∙◌, sym}
use Rattle.rstp_core.proofs.RunLaws.{runs_legal, runs_few, runs_same}
use Rattle.rstp_core.proofs.TreeLaws.{hears_another}
use Rattle.rstp_core.proofs.laws.root_port_hears_another.Goals as goal

pub returns : goal.returns
returns c = λ a cs hs s t few run n p same. hears_another s t (runs_legal a cs hs s t run) (runs_few a cs hs s t few run) n p (same ∙ sym (runs_same a cs hs s t run).address)
