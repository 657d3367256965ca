use Rattle.agent_core.proofs.PolicyKept.{rows_law, reads_law, masks_law, types_law}
use Rattle.agent_core.proofs.laws.policy_changes_by_sets_alone.Goals as goal

pub returns : goal.returns
returns c = record { kept = rows_law; read = reads_law; masks = masks_law; types = types_law }
