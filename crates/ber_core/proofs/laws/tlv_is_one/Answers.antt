use Rattle.ber_core.proofs.Least.{one_tlv}
use Rattle.ber_core.proofs.laws.tlv_is_one.Goals as goal

pub returns : goal.returns
returns c = one_tlv
