use Rattle.agent_core.proofs.Longest.{longest_law}
use Rattle.agent_core.proofs.laws.fitting_is_longest.Goals as goal

pub returns : goal.returns
returns c = longest_law
