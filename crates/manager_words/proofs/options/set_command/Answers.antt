use Rattle.std.proofs.Common.{codes, []}
use Rattle.clap.specs.Words.{App}
use Rattle.manager_words.specs.Options.{request_shape, some_words}
use Rattle.manager_words.proofs.Added.{taking}
use Rattle.manager_words.proofs.options.set_command.Goals as goal

pub returns : goal.returns
returns c =
    let none : App = record { top = request_shape (codes "set") []; subs = [] } in
    taking none (some_words (codes "SETTING")) c.request_command-set.result c.some_words-settings.result c.with_argument.result c.request_command-set.ensures c.some_words-settings.ensures c.with_argument.ensures
