-- What the parts of a command are, as it is built.
use Rattle.std.specs.Prelude.{◌≡◌, false}
use Rattle.clap.specs.Words.{App, Rule, app_of, rule_of}
use Rattle.clap.specs.declared.builder.arg.Arg.{Arg}
use Rattle.clap.specs.declared.builder.command.Command.{Command}
use Rattle.clap.specs.declared.builder.command.Command.TheViews.{out-Command}

-- an argument of this rule, of one command alone
pub record IsArgument (rule : Rule) (a : Arg) : Type 0 where
  pub ruled : rule_of a ≡ rule
  pub local : a.global ≡ false

-- a command as another one, under a name of its own in its usage
abbrev pub IsCalled : Command → Command → Type 0
IsCalled c d = out-Command d ≡ record (out-Command c) { bin_name = (out-Command d).bin_name }

-- a command of these words, which hands no argument down
pub record HasWords (app : App) (c : Command) : Type 0 where
  pub words : app_of c ≡ app
  pub local : (out-Command c).has_globals ≡ false
