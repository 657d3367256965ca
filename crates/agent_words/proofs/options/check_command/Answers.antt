use Rattle.std.proofs.Common.{codes, []}
use Rattle.clap.specs.Words.{App}
use Rattle.agent_words.specs.Options.{either_shape, ports_flag}
use Rattle.agent_words.proofs.Added.{taking}
use Rattle.agent_words.proofs.options.check_command.Goals as goal

pub returns : goal.returns
returns c =
    let none : App = record { top = either_shape (codes "check"); subs = [] } in
    taking none ports_flag c.either_command-check.result c.flag-ports.result c.with_argument.result c.either_command-check.ensures c.flag-ports.ensures c.with_argument.ensures
