use Rattle.agent_core.proofs.LawProofs.{few_law}
use Rattle.agent_core.proofs.laws.few_fit.Goals as goal

pub returns : goal.returns
returns c = few_law
