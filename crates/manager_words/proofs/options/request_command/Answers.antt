use Rattle.std.proofs.Common.{codes}
use Rattle.std.proofs.lemmas.Result.{IfOk-weaker}
use Rattle.clap.specs.Words.{App, new_app, with_rule}
use Rattle.manager_words.specs.Options.{one_word, tries_option}
use Rattle.manager_words.specs.Built.{HasWords}
use Rattle.manager_words.proofs.Added.{taking}
use Rattle.manager_words.proofs.Worded.{described, ruled}
use Rattle.manager_words.proofs.options.request_command.Goals as goal

pub returns : goal.returns
returns c =
    let none : App = new_app c.args.name.now in
    let address = one_word (codes "ADDRESS") in
    let one = with_rule none tries_option in
    let two = with_rule one address in
    let h : HasWords none c.new.result = record { words = c.new.ensures.app; local = c.new.ensures.local } in
    let h1 = described none c.new.result c.about.result _ c.about.ensures h in
    let h2 = IfOk-weaker c.arg-request.result _ (HasWords one) (λ n adds. ruled none tries_option c.about.result c.tries_option.result n h1 c.tries_option.ensures adds) c.arg-request.ensures in
    let h3 = taking one address c.arg-request.result c.one_word-address.result c.with_argument-request.result h2 c.one_word-address.ensures c.with_argument-request.ensures in
    taking two (one_word (codes "COMMUNITY")) c.with_argument-request.result c.one_word-community.result c.with_argument.result h3 c.one_word-community.ensures c.with_argument.ensures
