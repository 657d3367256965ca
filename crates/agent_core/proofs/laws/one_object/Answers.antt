use Rattle.agent_core.proofs.Apart.{one_object_law}
use Rattle.agent_core.proofs.laws.one_object.Goals as goal

pub returns : goal.returns
returns c = one_object_law
