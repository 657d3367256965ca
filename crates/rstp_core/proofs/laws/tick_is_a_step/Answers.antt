use Rattle.rstp_core.proofs.Functions.{tick_exact}
use Rattle.rstp_core.proofs.laws.tick_is_a_step.Goals as goal

pub returns : goal.returns
returns c = tick_exact
