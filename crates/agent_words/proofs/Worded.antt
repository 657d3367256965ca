-- What the setters of a command make of its words.
use Rattle.std.proofs.Common.{◌≡◌, ◌∙◌, ◌||◌, ℕ, true, List, Option, Some, ap, ap₂}
use Rattle.std.specs.Borrow.{Bor}
use Rattle.clap.specs.Words.{AddsArg, App, Rule, with_rule}
use Rattle.clap.specs.Simple.{app_of_fields}
use Rattle.clap.specs.declared.builder.arg.Arg.{Arg}
use Rattle.clap.specs.declared.builder.command.Command.{Command}
use Rattle.clap.specs.declared.builder.command.Command.TheViews.{out-Command}
use Rattle.agent_words.specs.Built.{HasWords, IsArgument}

pub described : (app : App) (c d : Command) (text : Option (Bor (List ℕ))) → out-Command d ≡ record (out-Command c) { about = text } → HasWords app c → HasWords app d
described app c d text is has = record {
  words = ap app_of_fields is ∙ has.words;
  local = ap (λ f. f.has_globals) is ∙ has.local;
}

pub explained : (app : App) (c d : Command) (text : Option (Bor (List ℕ))) → out-Command d ≡ record (out-Command c) { after_help = text } → HasWords app c → HasWords app d
explained app c d text is has = record {
  words = ap app_of_fields is ∙ has.words;
  local = ap (λ f. f.has_globals) is ∙ has.local;
}

pub versioned : (app : App) (c d : Command) (text : Bor (List ℕ)) → out-Command d ≡ record (out-Command c) { version = Some text } → HasWords app c → HasWords (record app { top = record app.top { has_version = true } }) d
versioned app c d text is has = record {
  words = ap app_of_fields is ∙ ap (λ (a : App). record a { top = record a.top { has_version = true } }) has.words;
  local = ap (λ f. f.has_globals) is ∙ has.local;
}

-- an argument more
pub ruled : (app : App) (r : Rule) (c : Command) (a : Arg) (n : Command) → HasWords app c → IsArgument r a → AddsArg c a n → HasWords (with_rule app r) n
ruled app r c a n has is adds = record {
  words = adds.shape is.local ∙ ap₂ with_rule has.words is.ruled;
  local = adds.globals ∙ ap₂ (λ x y. x || y) has.local is.local;
}
