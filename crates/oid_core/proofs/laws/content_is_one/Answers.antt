use Rattle.oid_core.proofs.One.{one_content}
use Rattle.oid_core.proofs.laws.content_is_one.Goals as goal

pub returns : goal.returns
returns c = one_content
