-- Why a served agent did not do a command, or gave no answer.
use Rattle.std.specs.Prelude.{ℕ, codes, bytes_eq, is_some, if◌then◌else◌, List, Option, Some, None}
use Rattle.std.specs.declared.io.ErrorKind.{ErrorKind}
use Rattle.std.specs.declared.io.ErrorKind.TheVariants as kind
use Rattle.rstp_settings.specs.declared.settings.TheConstants.{MAX_PORTS}
use Rattle.control_text.specs.Commands.{port_of}
use Rattle.agent_words.specs.Orders.{Command, counts, link, policy}
use Rattle.agent_program.specs.declared.answering.NoAnswer.{NoAnswer}
use Rattle.agent_program.specs.declared.answering.NoAnswer.TheVariants.{NoSocket, NotPermitted, NobodyListens, TooLate, Ended, Memory, System}
use Rattle.agent_program.specs.declared.answering.Undone.{Undone}
use Rattle.agent_program.specs.declared.answering.Undone.TheVariants.{NoPort, NoPortThere, Unknown, Policy, Short, Full}

-- why there is no answer, by the kind of the error with which asking for it ended
abbrev pub no_answer_by : ErrorKind → NoAnswer
no_answer_by kind.NotFound = NoSocket
no_answer_by kind.PermissionDenied = NotPermitted
no_answer_by kind.ConnectionRefused = NobodyListens
no_answer_by kind.TimedOut = TooLate
no_answer_by kind.WouldBlock = TooLate
no_answer_by kind.ConnectionReset = Ended
no_answer_by kind.BrokenPipe = Ended
no_answer_by kind.OutOfMemory = Memory
no_answer_by other = System other

-- Why a command was no command for the agent: a link is one unless the agent has no such port.
abbrev pub bad_line_by : Command → Undone
bad_line_by (link port up) = if is_some (port_of MAX_PORTS port) then NoPortThere else NoPort
bad_line_by counts = Unknown
bad_line_by (policy file) = Unknown

-- why an agent did not do a command that it answered so, if it did not
abbrev pub undone_by : Command → List ℕ → Option Undone
undone_by command answer =
    if bytes_eq answer (codes "badline\n") then Some (bad_line_by command)
    else if bytes_eq answer (codes "policy refused\n") then Some Policy
    else if bytes_eq answer (codes "short\n") then Some Short
    else if bytes_eq answer (codes "full\n") then Some Full
    else None
