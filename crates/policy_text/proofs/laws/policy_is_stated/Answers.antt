use Rattle.policy_text.proofs.StatedLemmas.{policy_reported, stated_policy}
use Rattle.policy_text.proofs.laws.policy_is_stated.Goals as goal

pub returns : goal.returns
returns c = λ ms policy. (stated_policy ms policy, policy_reported ms policy)
