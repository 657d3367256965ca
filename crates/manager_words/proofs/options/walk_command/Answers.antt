use Rattle.std.proofs.Common.{codes, []}
use Rattle.clap.specs.Words.{App}
use Rattle.manager_words.specs.Options.{one_word, request_shape}
use Rattle.manager_words.proofs.Added.{taking}
use Rattle.manager_words.proofs.options.walk_command.Goals as goal

pub returns : goal.returns
returns c =
    let none : App = record { top = request_shape (codes "walk") []; subs = [] } in
    taking none (one_word (codes "NAME")) c.request_command-walk.result c.one_word.result c.with_argument.result c.request_command-walk.ensures c.one_word.ensures c.with_argument.ensures
