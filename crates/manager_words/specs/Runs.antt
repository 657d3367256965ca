-- What follows from the words of a command line.
use Rattle.std.specs.Prelude.{◌≡◌, ℕ, ◌≤◌, ◌⊎◌, List, [], Option}
use Rattle.clap.specs.Words.{IsAmong, Text, fault_of, kind_of}
use Rattle.clap.specs.declared.error.Error.{Error}
use Rattle.clap.specs.declared.error.kind.ErrorKind.{ErrorKind}
use Rattle.clap.specs.declared.error.kind.ErrorKind.TheVariants.{DisplayHelp, DisplayVersion, OutOfMemory, ValueValidation}
use Rattle.wire_core.specs.Acts.{Act}
use Rattle.manager_core.specs.Runs.{HasRun}
use Rattle.manager_core.specs.declared.command.Command.{Command}
use Rattle.manager_core.specs.declared.command.TheConstants.{FAILED}
use Rattle.manager_words.specs.Options.{manager_app}
use Rattle.manager_words.specs.Requests.{IsCommand}
use Rattle.manager_words.specs.declared.program.TheConstants.{USAGE}

-- a kind of error that is no mistake: help or the version is asked for
abbrev pub IsText : ErrorKind → Type 0
IsText kind = (kind ≡ DisplayHelp) ⊎ (kind ≡ DisplayVersion)

-- the words ask for help or the version
pub record AskForText (words : List Text) : Type 0 where
  pub kind : ErrorKind
  pub among : IsAmong kind (fault_of manager_app words)
  pub shown : IsText kind

-- the words have a fault that asks for no text
pub record HaveFault (words : List Text) : Type 0 where
  pub kind : ErrorKind
  pub among : IsAmong kind (fault_of manager_app words)
  pub wrong : ¬ IsText kind

-- they have none, and a value of theirs cannot be read
pub record HaveNoCommand (words : List Text) : Type 0 where
  pub faultless : fault_of manager_app words ≡ []
  pub none : (c : Command) → ¬ IsCommand words c

-- what an error says of the words: there was no memory for them, they have a fault of this kind, or a
-- value of theirs cannot be read
abbrev pub IsRefusal : List Text → Error → Type 0
IsRefusal words e = (kind_of e ≡ OutOfMemory) ⊎ IsAmong (kind_of e) (fault_of manager_app words) ⊎ ((kind_of e ≡ ValueValidation) × HaveNoCommand words)

-- the output and the exit status where words are no command: help or the version is written, if the
-- output takes it; they are refused; or there was no memory for them
abbrev pub IsAnswered : {O : Type 0} → List Text → O → ℕ → O → Type 0
IsAnswered words old status new = (AskForText words × (status ≤ FAILED))
    ⊎ (((status ≡ USAGE) × (new ≡ old) × (HaveFault words ⊎ HaveNoCommand words))
    ⊎ ((status ≡ FAILED) × (new ≡ old)))

-- Between two states of a wire and of an output words were done, with this exit status: the command
-- that they ask for; or they are no command, and nothing was asked.
abbrev pub HasDone : {W O : Type 0} → (W → List Act → W → Type 0) → (O → Option (List ℕ)) → List Text → W → O → ℕ → W → O → Type 0
HasDone went contents words a old status b new =
    ((c : Command) × IsCommand words c × HasRun went contents c a old status b new)
    ⊎ (IsAnswered words old status new × (b ≡ a))
