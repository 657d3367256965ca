use Rattle.std.proofs.Common.{◌∙◌}
use Rattle.clap.specs.Words.{found_of}
use Rattle.agent_words.proofs.Given.{set_given}
use Rattle.agent_words.proofs.matches.is_given.Goals as goal

pub returns : goal.returns
returns c = c.unwrap_or.ensures ∙ set_given _ (found_of c.args.entered.now) c.args.flag.now c.get_one.result c.get_one.ensures.none c.get_one.ensures.value
