use Rattle.clap.specs.Words.{found_of}
use Rattle.agent_words.proofs.Given.{word_given}
use Rattle.agent_words.proofs.matches.word_in.Goals as goal

pub returns : goal.returns
returns c = word_given (found_of c.args.entered.now) c.args.id.now c.get_str.result c.get_str.ensures
