use Rattle.setphase_core.proofs.Passed.{after_at_most}
use Rattle.setphase_core.proofs.laws.no_more_are_passed_after_a_name.Goals as goal

pub returns : goal.returns
returns c = λ passes rows name. after_at_most passes name rows
