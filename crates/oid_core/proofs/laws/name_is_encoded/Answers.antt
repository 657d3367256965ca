use Rattle.oid_core.proofs.Canon.{canon_name_encodes}
use Rattle.oid_core.proofs.laws.name_is_encoded.Goals as goal

pub returns : goal.returns
returns c = canon_name_encodes
