use Rattle.rstp_core.proofs.Functions.{settling_exact}
use Rattle.rstp_core.proofs.laws.settling_is_a_step.Goals as goal

pub returns : goal.returns
returns c = settling_exact
