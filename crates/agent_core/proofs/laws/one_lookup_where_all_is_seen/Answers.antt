use Rattle.agent_core.proofs.LookupLemmas.{one_lookup_law}
use Rattle.agent_core.proofs.laws.one_lookup_where_all_is_seen.Goals as goal

pub returns : goal.returns
returns c = one_lookup_law
