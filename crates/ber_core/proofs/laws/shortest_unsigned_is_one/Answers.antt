use Rattle.ber_core.proofs.Octets.{octets_at}
use Rattle.ber_core.proofs.One.{one_unsigned}
use Rattle.ber_core.proofs.laws.shortest_unsigned_is_one.Goals as goal

pub returns : goal.returns
returns c = λ width content n narrow fits. one_unsigned width content n narrow (octets_at content fits)
