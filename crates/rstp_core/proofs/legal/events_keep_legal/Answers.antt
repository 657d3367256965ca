use Rattle.rstp_core.proofs.LegalTrees.{happening_legal}
use Rattle.rstp_core.proofs.legal.events_keep_legal.Goals as goal

pub returns : goal.returns
returns c = happening_legal
