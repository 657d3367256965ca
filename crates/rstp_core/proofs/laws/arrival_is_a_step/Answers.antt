use Rattle.rstp_core.proofs.Functions.{arrival_exact}
use Rattle.rstp_core.proofs.laws.arrival_is_a_step.Goals as goal

pub returns : goal.returns
returns c = arrival_exact
