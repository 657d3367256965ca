use Rattle.oid_core.proofs.Least.{one_name}
use Rattle.oid_core.proofs.laws.name_is_one.Goals as goal

pub returns : goal.returns
returns c = one_name
