use Rattle.ber_core.proofs.Least.{canon_unsigned_narrow, canon_unsigned_wide, canon_unsigned_minimal}
use Rattle.ber_core.proofs.laws.unsigned_is_encoded.Goals as goal

pub returns-clause-narrow : goal.returns-clause-narrow
returns-clause-narrow c = canon_unsigned_narrow

pub returns-clause-wide : goal.returns-clause-wide
returns-clause-wide c = canon_unsigned_wide

pub returns-clause-minimal : goal.returns-clause-minimal
returns-clause-minimal c = canon_unsigned_minimal
