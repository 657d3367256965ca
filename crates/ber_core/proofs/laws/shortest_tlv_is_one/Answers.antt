use Rattle.ber_core.proofs.Octets.{octets_at}
use Rattle.ber_core.proofs.One.{one_shortest_tlv}
use Rattle.ber_core.proofs.laws.shortest_tlv_is_one.Goals as goal

pub returns : goal.returns
returns c = λ tag content octets fits. one_shortest_tlv tag content octets (octets_at octets fits)
