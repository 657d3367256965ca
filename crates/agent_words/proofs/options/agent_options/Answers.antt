use Rattle.std.proofs.Common.{codes}
use Rattle.clap.specs.Words.{App, new_app}
use Rattle.agent_words.specs.Built.{HasWords}
use Rattle.agent_words.proofs.Worded.{described, explained, versioned}
use Rattle.agent_words.proofs.options.agent_options.Goals as goal

pub returns : goal.returns
returns c =
    let none : App = new_app (codes "agentd") in
    let h : HasWords none c.new.result = record { words = c.new.ensures.app; local = c.new.ensures.local } in
    let h1 = described none c.new.result c.about.result _ c.about.ensures h in
    let h2 = explained none c.about.result c.after_help.result _ c.after_help.ensures h1 in
    versioned none c.after_help.result c.version.result _ c.version.ensures h2
