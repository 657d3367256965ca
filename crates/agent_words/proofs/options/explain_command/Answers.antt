use Rattle.std.proofs.Common.{codes, []}
use Rattle.clap.specs.Words.{App, with_rule}
use Rattle.agent_words.specs.Options.{either_shape, one_word, some_words}
use Rattle.agent_words.proofs.Added.{taking}
use Rattle.agent_words.proofs.options.explain_command.Goals as goal

pub returns : goal.returns
returns c =
    let none : App = record { top = either_shape (codes "explain"); subs = [] } in
    let community = one_word (codes "COMMUNITY") in
    let request = one_word (codes "REQUEST") in
    let one = with_rule none community in
    let two = with_rule one request in
    let h1 = taking none community c.either_command-explain.result c.one_word-community.result c.with_argument-explain.result c.either_command-explain.ensures c.one_word-community.ensures c.with_argument-explain.ensures in
    let h2 = taking one request c.with_argument-explain.result c.one_word-request.result c.with_argument-explain-2.result h1 c.one_word-request.ensures c.with_argument-explain-2.ensures in
    taking two (some_words (codes "NAME")) c.with_argument-explain-2.result c.some_words-names.result c.with_argument.result h2 c.some_words-names.ensures c.with_argument.ensures
