use Rattle.std.proofs.Common.{codes, [], Ok}
use Rattle.clap.specs.Words.{App, with_subcommand}
use Rattle.agent_words.specs.Options.{agent_shape, file_shape, check_shape, serve_shape, explain_shape, tell_shape}
use Rattle.agent_words.proofs.Added.{added}
use Rattle.agent_words.proofs.options.agent_command.Goals as goal

pub returns : goal.returns
returns c =
    let none : App = record { top = agent_shape; subs = [] } in
    let script = file_shape (codes "script") in
    let one = with_subcommand none script in
    let two = with_subcommand one check_shape in
    let three = with_subcommand two serve_shape in
    let four = with_subcommand three explain_shape in
    let h1 = added none script (Ok c.agent_options.result) c.script_command.result c.added-agent.result c.agent_options.ensures c.script_command.ensures c.added-agent.ensures in
    let h2 = added one check_shape c.added-agent.result c.check_command.result c.added-agent-2.result h1 c.check_command.ensures c.added-agent-2.ensures in
    let h3 = added two serve_shape c.added-agent-2.result c.serve_command.result c.added-agent-3.result h2 c.serve_command.ensures c.added-agent-3.ensures in
    let h4 = added three explain_shape c.added-agent-3.result c.explain_command.result c.added-agent-4.result h3 c.explain_command.ensures c.added-agent-4.ensures in
    added four tell_shape c.added-agent-4.result c.tell_command.result c.added.result h4 c.tell_command.ensures c.added.ensures
