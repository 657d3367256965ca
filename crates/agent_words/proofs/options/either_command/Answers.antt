use Rattle.std.proofs.lemmas.Result.{IfOk-weaker}
use Rattle.clap.specs.Words.{App, new_app, with_rule}
use Rattle.agent_words.specs.Options.{config_choice, policy_option}
use Rattle.agent_words.specs.Built.{HasWords}
use Rattle.agent_words.proofs.Added.{taking}
use Rattle.agent_words.proofs.Worded.{described, explained, ruled}
use Rattle.agent_words.proofs.options.either_command.Goals as goal

pub returns : goal.returns
returns c =
    let none : App = new_app c.args.name.now in
    let one = with_rule none config_choice in
    let h : HasWords none c.new.result = record { words = c.new.ensures.app; local = c.new.ensures.local } in
    let h1 = described none c.new.result c.about.result _ c.about.ensures h in
    let h2 = explained none c.about.result c.after_help.result _ c.after_help.ensures h1 in
    let h3 = IfOk-weaker c.arg-command.result _ (HasWords one) (λ n adds. ruled none config_choice c.after_help.result c.config_choice.result n h2 c.config_choice.ensures adds) c.arg-command.ensures in
    taking one policy_option c.arg-command.result c.policy_option.result c.with_argument.result h3 c.policy_option.ensures c.with_argument.ensures
