use Rattle.std.proofs.Common.{[]}
use Rattle.std.proofs.lemmas.Result.{IfOk-weaker}
use Rattle.clap.specs.Words.{App, new_app}
use Rattle.agent_words.specs.Options.{config_option, file_shape}
use Rattle.agent_words.specs.Built.{HasWords}
use Rattle.agent_words.proofs.Worded.{described, explained, ruled}
use Rattle.agent_words.proofs.options.file_command.Goals as goal

pub returns : goal.returns
returns c =
    let none : App = new_app c.args.name.now in
    let h : HasWords none c.new.result = record { words = c.new.ensures.app; local = c.new.ensures.local } in
    let h1 = described none c.new.result c.about.result _ c.about.ensures h in
    let h2 = explained none c.about.result c.after_help.result _ c.after_help.ensures h1 in
    IfOk-weaker c.arg.result _ (HasWords (record { top = file_shape c.args.name.now; subs = [] })) (λ n adds. ruled none config_option c.after_help.result c.config_option.result n h2 c.config_option.ensures adds) c.arg.ensures
