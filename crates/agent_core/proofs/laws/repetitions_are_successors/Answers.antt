use Rattle.agent_core.proofs.Repeats.{repeats}
use Rattle.agent_core.proofs.laws.repetitions_are_successors.Goals as goal

pub returns : goal.returns
returns c = repeats
