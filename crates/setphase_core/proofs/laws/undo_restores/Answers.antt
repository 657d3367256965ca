use Rattle.setphase_core.proofs.Puts.{put-restored}
use Rattle.setphase_core.proofs.laws.undo_restores.Goals as goal

pub returns : goal.returns
returns c = put-restored
