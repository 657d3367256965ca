use Rattle.ber_core.proofs.Octets.{octets_at}
use Rattle.ber_core.proofs.Least.{no_shorter_unsigned}
use Rattle.ber_core.proofs.laws.no_unsigned_is_shorter.Goals as goal

pub returns : goal.returns
returns c = λ width content n narrow fits. no_shorter_unsigned width content n narrow (octets_at content fits)
