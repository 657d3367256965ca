use Rattle.rstp_core.proofs.RunLaws.{runs_legal}
use Rattle.rstp_core.proofs.laws.roles_of_the_whole_tree.Goals as goal

pub returns : goal.returns
returns c = λ a cs hs s t run. (runs_legal a cs hs s t run).roles
