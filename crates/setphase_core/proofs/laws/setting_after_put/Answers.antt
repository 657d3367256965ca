use Rattle.setphase_core.proofs.Puts.{setting-put}
use Rattle.setphase_core.proofs.laws.setting_after_put.Goals as goal

pub returns : goal.returns
returns c = setting-put
