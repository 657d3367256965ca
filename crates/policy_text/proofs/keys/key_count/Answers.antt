use Rattle.std.proofs.Common.{◌∙◌, sym}
use Rattle.policy_text.proofs.KeyLemmas.{key_count-view}
use Rattle.policy_text.proofs.keys.key_count.Goals as goal

pub returns : goal.returns
returns c = c.len.ensures.len ∙ sym (key_count-view c.args.table.now.entries)
