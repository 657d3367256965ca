use Rattle.ber_core.proofs.Canon.{canon_tlv_encodes}
use Rattle.ber_core.proofs.laws.tlv_is_encoded.Goals as goal

pub returns : goal.returns
returns c = canon_tlv_encodes
