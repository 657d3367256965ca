use Rattle.setphase_core.proofs.Puts.{put-put}
use Rattle.setphase_core.proofs.laws.put_twice.Goals as goal

pub returns : goal.returns
returns c = put-put
