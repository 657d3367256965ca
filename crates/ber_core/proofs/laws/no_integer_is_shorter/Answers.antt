use Rattle.ber_core.proofs.Octets.{octets_at}
use Rattle.ber_core.proofs.Least.{no_shorter_integer}
use Rattle.ber_core.proofs.laws.no_integer_is_shorter.Goals as goal

pub returns : goal.returns
returns c = λ content z fits. no_shorter_integer content z (octets_at content fits)
