use Rattle.std.proofs.Common.{codes}
use Rattle.std.proofs.lemmas.Result.{IfOk-weaker}
use Rattle.clap.specs.Words.{App, new_app, with_rule}
use Rattle.agent_words.specs.Options.{control_needed, some_words}
use Rattle.agent_words.specs.Built.{HasWords}
use Rattle.agent_words.proofs.Added.{taking}
use Rattle.agent_words.proofs.Worded.{described, explained, ruled}
use Rattle.agent_words.proofs.options.tell_command.Goals as goal

pub returns : goal.returns
returns c =
    let none : App = new_app (codes "tell") in
    let one = with_rule none control_needed in
    let h : HasWords none c.new.result = record { words = c.new.ensures.app; local = c.new.ensures.local } in
    let h1 = described none c.new.result c.about.result _ c.about.ensures h in
    let h2 = explained none c.about.result c.after_help.result _ c.after_help.ensures h1 in
    let h3 = IfOk-weaker c.arg-tell.result _ (HasWords one) (λ n adds. ruled none control_needed c.after_help.result c.control_needed.result n h2 c.control_needed.ensures adds) c.arg-tell.ensures in
    taking one (some_words (codes "COMMAND")) c.arg-tell.result c.some_words-words.result c.with_argument.result h3 c.some_words-words.ensures c.with_argument.ensures
