-- How words that are no command are answered.
use Rattle.std.specs.Prelude.{◌≡◌, ◌≢◌, ◌⊎◌, List, [], None}
use Rattle.clap.specs.Words.{IsAmong, Text, fault_of, kind_of}
use Rattle.clap.specs.declared.error.Error.{Error}
use Rattle.clap.specs.declared.error.kind.ErrorKind.{ErrorKind}
use Rattle.clap.specs.declared.error.kind.ErrorKind.TheVariants.{DisplayHelp, DisplayVersion, OutOfMemory, ValueValidation}
use Rattle.agent_words.specs.Options.{agent_app}
use Rattle.agent_words.specs.Asking.{asking_of}
use Rattle.agent_words.specs.declared.program.Answered.{Answered}
use Rattle.agent_words.specs.declared.program.Answered.TheVariants.{Shown, NotShown, Refused, Memory}

-- a kind of error that is no mistake: help or the version is asked for
abbrev pub IsText : ErrorKind → Type 0
IsText kind = (kind ≡ DisplayHelp) ⊎ (kind ≡ DisplayVersion)

-- the words ask for help or the version
pub record AskForText (words : List Text) : Type 0 where
  pub kind : ErrorKind
  pub among : IsAmong kind (fault_of agent_app words)
  pub shown : IsText kind

-- the words have a fault that asks for no text
pub record HaveFault (words : List Text) : Type 0 where
  pub kind : ErrorKind
  pub among : IsAmong kind (fault_of agent_app words)
  pub wrong : ¬ IsText kind

-- they have none, and their matches say nothing
pub record HaveNoCommand (words : List Text) : Type 0 where
  pub faultless : fault_of agent_app words ≡ []
  pub none : asking_of words ≡ None

-- what an error says of the words: there was no memory for them, they have a fault of this kind, or
-- their matches say nothing
abbrev pub IsRefusal : List Text → Error → Type 0
IsRefusal words e = (kind_of e ≡ OutOfMemory) ⊎ IsAmong (kind_of e) (fault_of agent_app words) ⊎ ((kind_of e ≡ ValueValidation) × HaveNoCommand words)

-- Between two states of an output and of standard error an error of this kind was answered so.
abbrev pub IsAnswerTo : {O E : Type 0} → ErrorKind → O → E → Answered → O → E → Type 0
IsAnswerTo kind out errors Shown out' errors' = IsText kind × (errors' ≡ errors)
IsAnswerTo kind out errors NotShown out' errors' = IsText kind × (errors' ≡ errors)
IsAnswerTo kind out errors Refused out' errors' =
    (¬ IsText kind) × (kind ≢ OutOfMemory) × (out' ≡ out)
IsAnswerTo kind out errors Memory out' errors' =
    (kind ≡ OutOfMemory) × (out' ≡ out) × (errors' ≡ errors)

-- Between two such states words that are no command were answered so: help or the version was
-- written, whole or until the output failed; they are refused; or there was no memory for them.
abbrev pub IsAnswered : {O E : Type 0} → List Text → O → E → Answered → O → E → Type 0
IsAnswered words out errors Shown out' errors' = AskForText words × (errors' ≡ errors)
IsAnswered words out errors NotShown out' errors' = AskForText words × (errors' ≡ errors)
IsAnswered words out errors Refused out' errors' =
    (HaveFault words ⊎ HaveNoCommand words) × (out' ≡ out)
IsAnswered words out errors Memory out' errors' = (out' ≡ out) × (errors' ≡ errors)
