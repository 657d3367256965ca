use Rattle.agent_core.proofs.LawProofs.{walk_law}
use Rattle.agent_core.proofs.laws.walk_lists_all.Goals as goal

pub returns : goal.returns
returns c = walk_law
