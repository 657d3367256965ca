use Rattle.clap.specs.Words.{found_of}
use Rattle.agent_words.proofs.Given.{words_given}
use Rattle.agent_words.proofs.matches.words_in.Goals as goal

pub returns : goal.returns
returns c = words_given (found_of c.args.entered.now) c.args.id.now c.get_strs.result c.get_strs.ensures
