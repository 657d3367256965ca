-- A subcommand more, and an argument more, where the parts are made.
use Rattle.std.proofs.Common.{◌∙◌, ◌||◌, [], Result, Ok, Err, IfOk, ap, ap₂}
use Rattle.std.specs.Prelude.{IsOkAnd}
use Rattle.clap.specs.Words.{AddsArg, AddsSubcommand, App, Rule, Shape, with_rule, with_subcommand}
use Rattle.clap.specs.declared.builder.arg.Arg.{Arg}
use Rattle.clap.specs.declared.builder.command.Command.{Command}
use Rattle.manager_words.specs.Built.{HasWords, IsArgument}
use Rattle.manager_words.proofs.Worded.{ruled}

pub added : {E : Type 0} (app : App) (sub : Shape) (c s r : Result Command E) → IfOk c (HasWords app) → IfOk s (HasWords (record { top = sub; subs = [] })) → IfOk r (λ n. IsOkAnd c (λ a. IsOkAnd s (λ x. AddsSubcommand a x n))) → IfOk r (HasWords (with_subcommand app sub))
added app sub (Ok c) (Ok s) (Ok n) of there adds = record {
  words = adds.shape there.local ∙ ap₂ with_subcommand of.words (ap (λ (a : App). a.top) there.words);
  local = adds.globals ∙ ap₂ (λ x y. x || y) of.local there.local;
}
added app sub (Ok c) (Err e) (Ok n) of there adds = absurd adds
added app sub (Err e) s (Ok n) of there adds = absurd adds
added app sub c s (Err e) of there adds = tt

pub taking : {E : Type 0} (app : App) (rule : Rule) (c : Result Command E) (a : Arg) (r : Result Command E) → IfOk c (HasWords app) → IsArgument rule a → IfOk r (λ n. IsOkAnd c (λ x. AddsArg x a n)) → IfOk r (HasWords (with_rule app rule))
taking app rule (Ok c) a (Ok n) of is adds = ruled app rule c a n of is adds
taking app rule (Err e) a (Ok n) of is adds = absurd adds
taking app rule c a (Err e) of is adds = tt
