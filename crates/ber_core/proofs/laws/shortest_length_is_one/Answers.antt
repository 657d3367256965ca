use Rattle.ber_core.proofs.Octets.{octets_at}
use Rattle.ber_core.proofs.One.{one_length}
use Rattle.ber_core.proofs.laws.shortest_length_is_one.Goals as goal

pub returns : goal.returns
returns c = λ octets n fits. one_length octets n (octets_at octets fits)
