use Rattle.ber_core.proofs.Octets.{octets_at}
use Rattle.ber_core.proofs.One.{one_integer}
use Rattle.ber_core.proofs.laws.shortest_integer_is_one.Goals as goal

pub returns : goal.returns
returns c = λ content z fits. one_integer content z (octets_at content fits)
