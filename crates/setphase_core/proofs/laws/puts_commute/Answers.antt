use Rattle.setphase_core.proofs.Puts.{puts-commuted}
use Rattle.setphase_core.proofs.laws.puts_commute.Goals as goal

pub returns : goal.returns
returns c = puts-commuted
