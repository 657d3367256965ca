use Rattle.setphase_core.proofs.Puts.{put-again}
use Rattle.setphase_core.proofs.laws.put_again_changes_nothing.Goals as goal

pub returns : goal.returns
returns c = put-again
