use Rattle.ber_core.proofs.Octets.{octets_at}
use Rattle.ber_core.proofs.Least.{no_shorter_tlv}
use Rattle.ber_core.proofs.laws.no_tlv_is_shorter.Goals as goal

pub returns : goal.returns
returns c = λ tag content octets fits. no_shorter_tlv tag content octets (octets_at octets fits)
