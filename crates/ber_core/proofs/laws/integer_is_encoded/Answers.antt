use Rattle.ber_core.proofs.Canon.{canon_integer_encodes}
use Rattle.ber_core.proofs.Least.{canon_integer_minimal}
use Rattle.ber_core.proofs.laws.integer_is_encoded.Goals as goal

pub returns : goal.returns
returns c = λ z fits. (canon_integer_encodes z fits, canon_integer_minimal z)
