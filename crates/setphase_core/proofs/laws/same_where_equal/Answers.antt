use Rattle.setphase_core.proofs.Puts.{same-exact}
use Rattle.setphase_core.proofs.laws.same_where_equal.Goals as goal

pub returns : goal.returns
returns c = same-exact
