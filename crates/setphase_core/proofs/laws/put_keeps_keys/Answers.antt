use Rattle.setphase_core.proofs.Puts.{keys-kept}
use Rattle.setphase_core.proofs.laws.put_keeps_keys.Goals as goal

pub returns : goal.returns
returns c = keys-kept
