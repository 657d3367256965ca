-- How the program ends: its exit status, and what it says on standard error.
use Rattle.std.specs.Prelude.{◌≡◌, ℕ, codes, List, [], ◌++◌, Option, Some, None, Result, Ok, Err, string_bytes}
use Rattle.std.specs.Borrow.{Bor}
use Rattle.std.specs.Io.KnownBytes.{Appends}
use Rattle.std.specs.declared.io.ErrorKind.{ErrorKind}
use Rattle.std.specs.declared.io.ErrorKind.TheVariants as kind
use Rattle.script_core.specs.declared.fault.RunFault.{RunFault}
use Rattle.script_core.specs.declared.fault.RunFault.TheVariants.{Input as InputFailed, Output as OutputFailed, Memory as NoMemory, Stopped as Given}
use Rattle.configuration.specs.Sentences.{memory_sentence}
use Rattle.udp_agent.specs.declared.setup.Unserved.TheVariants.{NoServe, NoSockets}
use Rattle.agent_program.specs.declared.files.NotRead.{NotRead}
use Rattle.agent_program.specs.declared.files.NotRead.TheVariants.{Memory as FileMemory, Unreadable, TooLarge as FileTooLarge}
use Rattle.agent_program.specs.declared.files.FileLimit.{FileLimit}
use Rattle.agent_program.specs.declared.files.FileLimit.TheVariants.{Configuration, Policy}
use Rattle.agent_words.specs.declared.program.Answered.{Answered}
use Rattle.agent_words.specs.declared.program.Answered.TheVariants.{Shown, NotShown, Refused as WordsRefused, Memory as WordsMemory}
use Rattle.explain.specs.declared.questions.QuestionFault.{QuestionFault}
use Rattle.explain.specs.declared.questions.QuestionFault.TheVariants.{Memory as NoQuestionMemory, Name}
use Rattle.agent_program.specs.declared.reporting.NotTaken.{NotTaken}
use Rattle.agent_program.specs.declared.failure.Failure.{Failure}
use Rattle.agent_program.specs.declared.failure.Failure.TheVariants.{NotText, NoName, CannotRead, TooLarge, Refused, RefusedFor, Input, Output, Unanswered, NotDone, PolicyNotDone, PolicyRefused, PolicyRefusedFor, Run as RunFailed}
use Rattle.agent_program.specs.declared.answering.NoAnswer.{NoAnswer}
use Rattle.agent_program.specs.declared.answering.NoAnswer.TheVariants as unanswered
use Rattle.agent_program.specs.declared.answering.Undone.{Undone}
use Rattle.agent_program.specs.declared.answering.Undone.TheVariants as undone
use Rattle.agent_program.specs.declared.failure.Refusal.{Refusal}
use Rattle.agent_program.specs.declared.failure.Refusal.TheVariants as refused

-- the exit status: 2 for a word that is no text and for a configuration or a policy that cannot be read or
-- is refused, 1 for what failed in a run
abbrev pub failure_status : Failure → ℕ
failure_status NotText = 2
failure_status (NoName word) = 2
failure_status (CannotRead file reason) = 2
failure_status (TooLarge file limit) = 2
failure_status Refused = 2
failure_status (RefusedFor file refusal) = 2
failure_status Input = 1
failure_status Output = 1
failure_status (Unanswered path why) = 1
failure_status (NotDone why) = 1
failure_status (PolicyNotDone file refusal) = 1
failure_status PolicyRefused = 2
failure_status (PolicyRefusedFor file refusal) = 2
failure_status RunFailed = 1

abbrev pub status_of : {A : Type 0} → Result A Failure → ℕ
status_of (Ok done) = 0
status_of (Err failure) = failure_status failure

-- what a failure is called, and what it names
abbrev pub failure_words : Failure → List ℕ
failure_words NotText = codes "a word is no text"
failure_words (NoName word) = codes "no object identifier: "
failure_words (CannotRead file reason) = codes "cannot read "
failure_words (TooLarge file limit) = codes "cannot read "
failure_words Refused = codes "configuration refused"
failure_words (RefusedFor file refusal) = codes "configuration refused"
failure_words Input = codes "input failed"
failure_words Output = codes "output failed"
failure_words (Unanswered path why) = codes "no answer"
failure_words (NotDone why) = codes "command refused"
failure_words (PolicyNotDone file refusal) = codes "command refused"
failure_words PolicyRefused = codes "policy refused"
failure_words (PolicyRefusedFor file refusal) = codes "policy refused"
failure_words RunFailed = codes "run failed"

abbrev pub failure_name : Failure → List ℕ
failure_name NotText = []
failure_name (NoName word) = word.now
failure_name (CannotRead file reason) = file.now
failure_name (TooLarge file limit) = file.now
failure_name Refused = []
failure_name (RefusedFor file refusal) = []
failure_name Input = []
failure_name Output = []
failure_name (Unanswered path why) = []
failure_name (NotDone why) = []
failure_name (PolicyNotDone file refusal) = []
failure_name PolicyRefused = []
failure_name (PolicyRefusedFor file refusal) = []
failure_name RunFailed = []

-- the line that says of a file how many octets it may have
abbrev pub limit_line : FileLimit → List ℕ
limit_line Configuration = codes "agentd: it has more than 268435456 octets\n"
limit_line Policy = codes "agentd: it has more than 65536 octets\n"

-- why a file cannot be read, in the words of the C library for the errors of Linux
abbrev pub reason_words : ErrorKind → List ℕ
reason_words kind.NotFound = codes "No such file or directory"
reason_words kind.PermissionDenied = codes "Permission denied"
reason_words kind.NotADirectory = codes "Not a directory"
reason_words kind.IsADirectory = codes "Is a directory"
reason_words kind.FilesystemLoop = codes "Too many levels of symbolic links"
reason_words kind.InvalidFilename = codes "File name too long"
reason_words kind.InvalidInput = codes "Invalid argument"
reason_words kind.ResourceBusy = codes "Device or resource busy"
reason_words kind.StaleNetworkFileHandle = codes "Stale file handle"
reason_words kind.TimedOut = codes "Connection timed out"
reason_words unnamed = codes "another error of the system"

-- why an agent gave no answer, as an operator reads it
abbrev pub no_answer_words : NoAnswer → List ℕ
no_answer_words unanswered.NoSocket = codes "there is no socket at this path"
no_answer_words unanswered.NotPermitted = codes "this user may not connect to the socket"
no_answer_words unanswered.NobodyListens = codes "nobody listens at the socket"
no_answer_words unanswered.TooLate = codes "no answer came within two seconds"
no_answer_words unanswered.Ended = codes "the connection ended without an answer"
no_answer_words unanswered.Memory = codes "there was no memory for the answer"
no_answer_words (unanswered.System reason) = reason_words reason

-- the line that says why an agent did not do a command; none of a policy
abbrev pub undone_line : Undone → List ℕ
undone_line undone.NoPort = codes "agentd: a port is a number of 1 to 32\n"
undone_line undone.NoPortThere =
    codes "agentd: the agent has no such port: its ports are 1 to the number of [[port]] in its configuration\n"
undone_line undone.Unknown =
    codes "agentd: the agent does not know this command: commands are link P up, link P down, policy and counts\n"
undone_line undone.Policy = []
undone_line undone.Short = codes "agentd: the agent had no memory for the command\n"
undone_line undone.Full =
    codes "agentd: the agent has no number left for an entry: it takes changes again when it is started anew\n"

-- why the configuration or the policy of a file is refused, in the words of a check
abbrev pub refusal_words : Refusal → List ℕ
refusal_words (refused.Fault sentence) = string_bytes sentence
refusal_words refused.NoSentence =
    codes "there was no memory for the sentence on its first fault"
refusal_words refused.Memory = memory_sentence
refusal_words (refused.Unserved NoServe) =
    codes "configuration ok for script, not for serve: no [serve]"
refusal_words (refused.Unserved NoSockets) =
    codes "configuration ok for script, not for serve: a port without listen or peer"
refusal_words refused.ByAgent =
    codes "the policy is right; the agent had no memory for it, or it has more than 65536 octets"

-- the line that says of a file what the cause is
abbrev pub cause_line : List ℕ → List ℕ → List ℕ
cause_line file cause = codes "agentd: " ++ (file ++ (codes ": " ++ (cause ++ codes "\n")))

abbrev pub first_line : Failure → List ℕ
first_line failure =
    codes "agentd: " ++ (failure_words failure ++ (failure_name failure ++ codes "\n"))

-- The line that follows: of a file why it cannot be read, how many octets it may have, or why its
-- configuration or its policy is refused; of an agent why it gave no answer, or did not do a command.
abbrev pub second_line : Failure → List ℕ
second_line NotText = []
second_line (NoName word) = []
second_line (CannotRead file reason) = cause_line file.now (reason_words reason)
second_line (TooLarge file limit) = limit_line limit
second_line Refused = []
second_line (RefusedFor file refusal) = cause_line file.now (refusal_words refusal)
second_line Input = []
second_line Output = []
second_line (Unanswered path why) = cause_line path.now (no_answer_words why)
second_line (NotDone why) = undone_line why
second_line (PolicyNotDone file refusal) = cause_line file.now (refusal_words refusal)
second_line PolicyRefused = []
second_line (PolicyRefusedFor file refusal) = cause_line file.now (refusal_words refusal)
second_line RunFailed = []

-- its line, and behind it the second, where there is one
abbrev pub failure_line : Failure → List ℕ
failure_line failure = first_line failure ++ second_line failure

-- what is stated on standard error
abbrev pub stated_of : {A : Type 0} → Result A Failure → List ℕ
stated_of (Ok done) = []
stated_of (Err failure) = failure_line failure

-- the exit status of words that are no command, as they were answered: 2 for words that are wrong
abbrev pub answered_status : Answered → ℕ
answered_status Shown = 0
answered_status WordsRefused = 2
answered_status NotShown = 1
answered_status WordsMemory = 1

-- what is stated on standard error behind that answer
abbrev pub answered_line : Answered → List ℕ
answered_line Shown = []
answered_line WordsRefused = []
answered_line NotShown = failure_line Output
answered_line WordsMemory = failure_line RunFailed

-- words that were not had, as a failure of the program: want of memory for them is not their fault
abbrev pub words_failure : ErrorKind → Failure
words_failure kind.OutOfMemory = RunFailed
words_failure unnamed = NotText

-- a run that did not reach its end, as a failure of the program
abbrev pub run_failure : RunFault → Failure
run_failure InputFailed = Input
run_failure OutputFailed = Output
run_failure NoMemory = RunFailed
run_failure Given = RunFailed

-- a file that was not read, as a failure of the program: without memory for its octets nothing is
-- known of them
abbrev pub read_failure : NotRead → Failure
read_failure (FileMemory file) = RefusedFor file refused.Memory
read_failure (Unreadable file reason) = CannotRead file reason
read_failure (FileTooLarge file limit) = TooLarge file limit

-- the file of a policy that was not read, as a failure of the program
abbrev pub policy_read_failure : NotRead → Failure
policy_read_failure (FileMemory file) = PolicyRefusedFor file refused.Memory
policy_read_failure (Unreadable file reason) = CannotRead file reason
policy_read_failure (FileTooLarge file limit) = TooLarge file limit

-- words that make no request, as a failure of the program
abbrev pub question_failure : QuestionFault → Failure
question_failure NoQuestionMemory = RunFailed
question_failure (Name word) = NoName word

-- the refusal of the configuration of a file, if it is of one
abbrev pub refused_for : Option (Bor (List ℕ)) → Refusal → Failure
refused_for (Some file) why = RefusedFor file why
refused_for None why = Refused

-- a writer took a front of this text, and nothing else
pub record TakesFront (old new : Option (List ℕ)) (text : List ℕ) : Type 0 where
  pub front : List ℕ
  pub rest : List ℕ
  pub whole : text ≡ front ++ rest
  pub took : Appends old new front

-- a line was taken whole, or a front of it behind which a write failed
abbrev pub IsLineTaken : Result (Unit {0}) NotTaken → Option (List ℕ) → Option (List ℕ) → List ℕ →
    Type 0
IsLineTaken (Ok done) old new line = Appends old new line
IsLineTaken (Err failed) old new line = TakesFront old new line
