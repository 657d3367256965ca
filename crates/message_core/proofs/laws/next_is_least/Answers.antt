use Rattle.message_core.proofs.Rising.{first_least}
use Rattle.message_core.proofs.laws.next_is_least.Goals as goal

pub returns : goal.returns
returns c = first_least
