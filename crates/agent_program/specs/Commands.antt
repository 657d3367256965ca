-- What the program does to have a served agent do a command.
use Rattle.std.specs.Prelude.{◌≡◌, ◌⊎◌, ℕ, Bool, true, false, codes, bytes_eq, if◌then◌else◌, List, [], ◌∷◌, Option, Some, None, Result, Ok, Err, Vec}
use Rattle.std.specs.Borrow.{Bor}
use Rattle.std.specs.declared.alloc.Global.{Global}
use Rattle.agent_words.specs.declared.asked.Order.{Order}
use Rattle.agent_words.specs.declared.asked.Order.TheVariants.{Counts, Link, Policy}
use Rattle.agent_words.specs.Orders.{Command, counts, link, policy}
use Rattle.community_core.specs.Communities.{PolicyTables}
use Rattle.configuration.specs.declared.fault.ConfigurationFault.{ConfigurationFault}
use Rattle.configuration.specs.PolicyFiles.{IsPartIn, IsPolicyIn, IsPolicyFaultIn}
use Rattle.configuration.specs.Warnings.{policy_warnings}
use Rattle.control_socket.specs.Sent.{link_octets, policy_octets}
use Rattle.agent_program.specs.declared.files.FileLimit.TheVariants as limit
use Rattle.agent_program.specs.declared.files.NotRead.{NotRead}
use Rattle.agent_program.specs.declared.files.NotRead.TheVariants.{Memory as FileMemory, Unreadable, TooLarge as FileTooLarge}
use Rattle.agent_program.specs.declared.answering.NoAnswer.{NoAnswer}
use Rattle.agent_program.specs.declared.answering.NoAnswer.TheVariants.{Ended}
use Rattle.agent_program.specs.declared.answering.Undone.{Undone}
use Rattle.agent_program.specs.declared.answering.Undone.TheVariants as undone
use Rattle.agent_program.specs.declared.failure.Refusal.{Refusal}
use Rattle.agent_program.specs.declared.failure.Failure.{Failure}
use Rattle.agent_program.specs.declared.failure.Failure.TheVariants.{CannotRead, TooLarge, Unanswered, NotDone, PolicyNotDone, Run as RunFailed}
use Rattle.agent_program.specs.Answering.{undone_by}
use Rattle.agent_program.specs.Files.{IsReadOf}
use Rattle.agent_program.specs.Refusals.{IsPolicyRefusal}
use Rattle.agent_program.specs.Reporting.{IsReported}
use Rattle.agent_program.specs.Warned.{warned_text}

-- why there is no command by a file: there was no memory for its octets, it cannot be read, or it has too
-- many of them
abbrev pub policy_failure : NotRead → Failure
policy_failure (FileMemory file) = RunFailed
policy_failure (Unreadable file reason) = CannotRead file reason
policy_failure (FileTooLarge file limit) = TooLarge file limit

-- how the program ends behind an answer to a command that was printed so: an answer that refuses the
-- command is a failure
abbrev pub refused_end : Result (Unit {0}) Failure → Option Undone → Result (Unit {0}) Failure
refused_end (Err failure) why = Err failure
refused_end (Ok done) None = Ok done
refused_end (Ok done) (Some why) = Err (NotDone why)

-- An answer without octets is one only to a command that may be answered so.
abbrev pub heard : Bool → Result (List ℕ) NoAnswer → Result (List ℕ) NoAnswer
heard may_be_empty (Err why) = Err why
heard may_be_empty (Ok []) = if may_be_empty then Ok [] else Err Ended
heard may_be_empty (Ok (octet ∷ octets)) = Ok (octet ∷ octets)

-- the octets alone
abbrev pub answer_view : Result (Vec ℕ Global) NoAnswer → Result (List ℕ) NoAnswer
answer_view (Ok octets) = Ok octets.items
answer_view (Err why) = Err why

-- A writer that may report which octets it took.
module _ {O : Type 0} (contents : O → Option (List ℕ)) where
  -- an answer to a command was printed, whole or until the output failed, and the program ended so
  pub record IsPrinted (command : Command) (answer : List ℕ) (writer writer' : O)
      (ended : Result (Unit {0}) Failure) : Type 0 where
    pub printed : Result (Unit {0}) Failure
    pub reported : IsReported contents answer writer writer' printed
    pub is : ended ≡ refused_end printed (undone_by command answer)

  -- how the program ends by what the agent of a path answers to a command: without an answer nothing is
  -- written
  abbrev pub EndsBy : Bor (List ℕ) → Command → Result (List ℕ) NoAnswer → O → O
      → Result (Unit {0}) Failure → Type 0
  EndsBy path command (Err why) writer writer' ended =
      (ended ≡ Err (Unanswered path why)) × (writer' ≡ writer)
  EndsBy path command (Ok answer) writer writer' ended = IsPrinted command answer writer writer' ended

-- what is sent of the octets of a policy's file: the policy of a configuration alone, else all of them
abbrev pub part_or : List ℕ → Option (List ℕ) → List ℕ
part_or text None = text
part_or text (Some part) = part

-- the octets of the command for the policy of a file
abbrev pub IsPolicyCommand : List ℕ → List ℕ → Type 0
IsPolicyCommand text octets =
    (part : Option (List ℕ)) × IsPartIn text part × (octets ≡ policy_octets (part_or text part))

-- whether a policy was refused, by how the program ends behind its answer
abbrev pub is_policy_refused : Result (Unit {0}) Failure → Bool
is_policy_refused (Err (NotDone undone.Policy)) = true
is_policy_refused other = false

-- how the program ends behind the answer to a policy of these octets of a file: where it is refused, with
-- the reason that the octets have
abbrev pub IsPolicyEndBy : Bool → Bor (List ℕ) → List ℕ → Result (Unit {0}) Failure
    → Result (Unit {0}) Failure → Type 0
IsPolicyEndBy true file text answered ended =
    (refusal : Refusal) × IsPolicyRefusal text refusal × (ended ≡ Err (PolicyNotDone file refusal))
IsPolicyEndBy false file text answered ended = ended ≡ answered

abbrev pub IsPolicyEnd : Bor (List ℕ) → List ℕ → Result (Unit {0}) Failure
    → Result (Unit {0}) Failure → Type 0
IsPolicyEnd file text answered ended =
    IsPolicyEndBy (is_policy_refused answered) file text answered ended

-- ---- a policy that the agent took

-- the answer to a policy that was taken
abbrev pub taken_answer : List ℕ
taken_answer = codes "policy ok\n"

-- whether an agent took a policy that it answered so
abbrev pub is_taken : Result (List ℕ) NoAnswer → Bool
is_taken (Err why) = false
is_taken (Ok answer) = bytes_eq answer taken_answer

-- the same, and behind it that there is no memory to find or write what is warned of
abbrev pub unwarned_text : List ℕ
unwarned_text =
    codes "policy ok\nwarning: there was no memory to find what is warned of in the policy\n"

-- what is printed where an agent took this policy: its answer, and behind it what is warned of in the policy,
-- or that there was no memory for that
abbrev pub IsTakenPolicyText : PolicyTables → List ℕ → Type 0
IsTakenPolicyText tables printed =
    (printed ≡ warned_text taken_answer (policy_warnings tables))
    ⊎ (printed ≡ unwarned_text)

-- The same by the octets of the policy's file. Where they are none for this program, as an agent of another
-- version may take, nothing is warned of in them; and there may be no memory to read them.
abbrev pub IsTakenText : List ℕ → List ℕ → Type 0
IsTakenText text printed =
    ((tables : PolicyTables) × IsPolicyIn text tables × IsTakenPolicyText tables printed)
    ⊎ ((fault : ConfigurationFault) × IsPolicyFaultIn text fault × (printed ≡ taken_answer))
    ⊎ (printed ≡ unwarned_text)

module _ {O : Type 0} (contents : O → Option (List ℕ)) where
  -- what is printed of a policy that was taken was, whole or until the output failed
  pub record IsWarnedPrinted (tables : PolicyTables) (writer writer' : O) (ended : Result (Unit {0}) Failure)
      : Type 0 where
    pub printed : List ℕ
    pub of : IsTakenPolicyText tables printed
    pub reported : IsReported contents printed writer writer' ended

  -- the same of the octets of its file
  pub record IsTakenPrinted (text : List ℕ) (writer writer' : O) (ended : Result (Unit {0}) Failure)
      : Type 0 where
    pub printed : List ℕ
    pub of : IsTakenText text printed
    pub reported : IsReported contents printed writer writer' ended

  -- there was no answer to a policy of these octets of a file, or another one; where it is refused, it is
  -- with the reason that the octets have
  pub record EndsOtherwise (path file : Bor (List ℕ)) (text : List ℕ) (answer : Result (List ℕ) NoAnswer)
      (writer writer' : O) (ended : Result (Unit {0}) Failure) : Type 0 where
    pub answered : Result (Unit {0}) Failure
    pub by : EndsBy contents path (policy file.now) answer writer writer' answered
    pub ends : IsPolicyEnd file text answered ended

  -- how the program ends by what the agent of a path answers to a policy of these octets of a file
  abbrev pub EndsPolicyBy : Bool → Bor (List ℕ) → Bor (List ℕ) → List ℕ → Result (List ℕ) NoAnswer → O → O
      → Result (Unit {0}) Failure → Type 0
  EndsPolicyBy true path file text answer writer writer' ended =
      IsTakenPrinted text writer writer' ended
  EndsPolicyBy false path file text answer writer writer' ended =
      EndsOtherwise path file text answer writer writer' ended

  abbrev pub EndsPolicy : Bor (List ℕ) → Bor (List ℕ) → List ℕ → Result (List ℕ) NoAnswer → O → O
      → Result (Unit {0}) Failure → Type 0
  EndsPolicy path file text answer writer writer' ended =
      EndsPolicyBy (is_taken answer) path file text answer writer writer' ended

-- Whether a command may be answered without octets: a link may, by which no port sends.
abbrev pub may_be_empty : Command → Bool
may_be_empty (link port up) = true
may_be_empty counts = false
may_be_empty (policy file) = false

-- Beside it an agent, by what it may answer at the control socket of a path to octets.
module _ {O : Type 0} (Answers : List ℕ → List ℕ → Result (List ℕ) NoAnswer → Type 0)
    (contents : O → Option (List ℕ)) where
  -- the program ended by an answer to exactly these octets of a command
  pub record IsSent (path : Bor (List ℕ)) (command : Command) (octets : List ℕ) (writer writer' : O)
      (ended : Result (Unit {0}) Failure) : Type 0 where
    pub answer : Result (List ℕ) NoAnswer
    pub gave : Answers path.now octets answer
    pub ends : EndsBy contents path command (heard (may_be_empty command) answer) writer writer' ended

  -- there was no memory for the command, and nothing was written
  abbrev pub IsNotMade : O → O → Result (Unit {0}) Failure → Type 0
  IsNotMade writer writer' ended = (ended ≡ Err RunFailed) × (writer' ≡ writer)

  -- the command for the policy of a file of these octets was sent, and the program ended by the answer to it
  pub record IsPolicySent (path file : Bor (List ℕ)) (text : List ℕ) (writer writer' : O)
      (ended : Result (Unit {0}) Failure) : Type 0 where
    pub octets : List ℕ
    pub command : IsPolicyCommand text octets
    pub answer : Result (List ℕ) NoAnswer
    pub gave : Answers path.now octets answer
    pub ends : EndsPolicy contents path file text (heard false answer) writer writer' ended

  -- the policy of this file by what was read of it
  abbrev pub SendsRead : Bor (List ℕ) → Bor (List ℕ) → Result (List ℕ) NotRead → O → O
      → Result (Unit {0}) Failure → Type 0
  SendsRead path file (Ok text) writer writer' ended =
      IsPolicySent path file text writer writer' ended ⊎ IsNotMade writer writer' ended
  SendsRead path file (Err why) writer writer' ended =
      (ended ≡ Err (policy_failure why)) × (writer' ≡ writer)

-- Beside these a reader of files, by what a read of the file of a name may give.
module _ {O : Type 0} (Gives : List ℕ → Result (List ℕ) NotRead → Type 0)
    (Answers : List ℕ → List ℕ → Result (List ℕ) NoAnswer → Type 0) (contents : O → Option (List ℕ)) where
  -- a file was read, or not, and what was read of it was sent as a policy
  pub record SendsFile (path file : Bor (List ℕ)) (writer writer' : O)
      (ended : Result (Unit {0}) Failure) : Type 0 where
    pub read : Result (List ℕ) NotRead
    pub is : IsReadOf Gives limit.Policy file.now read
    pub sends : SendsRead Answers contents path file read writer writer' ended

  -- A command was sent to the agent whose control socket has this path.
  abbrev pub SendsCommand : Bor (List ℕ) → Order → O → O → Result (Unit {0}) Failure → Type 0
  SendsCommand path Counts writer writer' ended =
      IsSent Answers contents path counts (codes "counts\n") writer writer' ended
  SendsCommand path (Link port up) writer writer' ended =
      IsSent Answers contents path (link port.now up) (link_octets port.now up) writer writer' ended
      ⊎ IsNotMade Answers contents writer writer' ended
  SendsCommand path (Policy file) writer writer' ended = SendsFile path file writer writer' ended
