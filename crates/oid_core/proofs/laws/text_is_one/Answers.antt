use Rattle.oid_core.proofs.Texts.{one_name}
use Rattle.oid_core.proofs.laws.text_is_one.Goals as goal

pub returns : goal.returns
returns c = one_name
