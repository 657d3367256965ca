use Rattle.rstp_core.proofs.Functions.{link_exact}
use Rattle.rstp_core.proofs.laws.link_is_a_step.Goals as goal

pub returns : goal.returns
returns c = link_exact
