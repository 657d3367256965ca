use Rattle.rstp_core.proofs.Bests.{IsBest-unique}
use Rattle.rstp_core.proofs.laws.root_is_one.Goals as goal

pub returns : goal.returns
returns c = IsBest-unique
