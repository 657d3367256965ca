use Rattle.std.proofs.Common.{codes, [], true}
use Rattle.std.proofs.lemmas.Result.{IfOk-weaker}
use Rattle.clap.specs.Words.{App, new_app}
use Rattle.manager_words.specs.Options.{manager_shape, tries_option}
use Rattle.manager_words.specs.Built.{HasWords}
use Rattle.manager_words.proofs.Worded.{described, explained, versioned, without_help, requiring, ruled}
use Rattle.manager_words.proofs.options.manager_options.Goals as goal

pub returns : goal.returns
returns c =
    let none : App = new_app (codes "manager") in
    let h : HasWords none c.new.result = record { words = c.new.ensures.app; local = c.new.ensures.local } in
    let h1 = described none c.new.result c.about.result _ c.about.ensures h in
    let h2 = explained none c.about.result c.after_help.result _ c.after_help.ensures h1 in
    let h3 = versioned none c.after_help.result c.version.result _ c.version.ensures h2 in
    let h4 = without_help _ c.version.result c.disable_help_subcommand.result true c.disable_help_subcommand.ensures h3 in
    let h5 = requiring _ c.disable_help_subcommand.result c.subcommand_required.result true c.subcommand_required.ensures h4 in
    IfOk-weaker c.arg.result _ (HasWords (record { top = manager_shape; subs = [] })) (λ n adds. ruled _ tries_option c.subcommand_required.result c.tries_option.result n h5 c.tries_option.ensures adds) c.arg.ensures
