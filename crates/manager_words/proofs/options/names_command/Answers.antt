use Rattle.std.proofs.Common.{codes, []}
use Rattle.clap.specs.Words.{App}
use Rattle.manager_words.specs.Options.{request_shape, some_words}
use Rattle.manager_words.proofs.Added.{taking}
use Rattle.manager_words.proofs.options.names_command.Goals as goal

pub returns : goal.returns
returns c =
    let none : App = record { top = request_shape c.args.name.now []; subs = [] } in
    taking none (some_words (codes "NAME")) c.request_command.result c.names.result c.with_argument.result c.request_command.ensures c.names.ensures c.with_argument.ensures
