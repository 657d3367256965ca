use Rattle.std.proofs.Common.{ap, ◌∙◌, option_map}
use Rattle.policy_text.specs.Keys.{list_of}
use Rattle.policy_text.proofs.KeyLemmas.{array_list}
use Rattle.policy_text.proofs.keys.array_at.Goals as goal

pub returns-in-Some : goal.returns-in-Some
returns-in-Some c = array_list c.as_array.result ∙ ap (option_map list_of) c.as_array.ensures ∙ rw (← c.in-Some.ensures)
