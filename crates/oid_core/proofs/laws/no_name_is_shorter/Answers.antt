use Rattle.oid_core.proofs.Least.{no_shorter_name}
use Rattle.oid_core.proofs.laws.no_name_is_shorter.Goals as goal

pub returns : goal.returns
returns c = no_shorter_name
