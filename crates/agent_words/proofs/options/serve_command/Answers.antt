use Rattle.std.proofs.Common.{codes, []}
use Rattle.clap.specs.Words.{App, with_rule}
use Rattle.agent_words.specs.Options.{audit_flag, control_option, file_shape, forever_flag}
use Rattle.agent_words.proofs.Added.{taking}
use Rattle.agent_words.proofs.options.serve_command.Goals as goal

pub returns : goal.returns
returns c =
    let none : App = record { top = file_shape (codes "serve"); subs = [] } in
    let one = with_rule none forever_flag in
    let two = with_rule one audit_flag in
    let h1 = taking none forever_flag c.file_command-serve.result c.flag.result c.with_argument-serve.result c.file_command-serve.ensures c.flag.ensures c.with_argument-serve.ensures in
    let h2 = taking one audit_flag c.with_argument-serve.result c.flag-audit.result c.with_argument-serve-2.result h1 c.flag-audit.ensures c.with_argument-serve-2.ensures in
    taking two control_option c.with_argument-serve-2.result c.control_option.result c.with_argument.result h2 c.control_option.ensures c.with_argument.ensures
