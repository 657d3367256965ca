use Rattle.rstp_core.proofs.LegalTrees.{opening_legal}
use Rattle.rstp_core.proofs.legal.opening_is_legal.Goals as goal

pub returns : goal.returns
returns c = opening_legal
