-- What the program does for what is asked of it.
use Rattle.std.specs.Prelude.{◌≡◌, ℕ, List, Option, Some, None, Result, Ok, Err}
use Rattle.std.specs.Borrow.{Bor}
use Rattle.configuration.specs.declared.configuration.TheConstants.{BUILT_IN}
use Rattle.setphase_core.specs.Objects.{ObjectState}
use Rattle.agent_script.specs.declared.session.ScriptEnd.{ScriptEnd}
use Rattle.agent_program.specs.declared.files.FileLimit.TheVariants as limit
use Rattle.agent_program.specs.declared.files.NotRead.{NotRead}
use Rattle.agent_program.specs.declared.opening.NotRun.{NotRun}
use Rattle.agent_program.specs.declared.answering.NoAnswer.{NoAnswer}
use Rattle.agent_program.specs.declared.failure.Failure.{Failure}
use Rattle.agent_program.specs.declared.failure.Ended.{Ended}
use Rattle.agent_words.specs.declared.asked.Asked.{Asked}
use Rattle.agent_words.specs.declared.asked.Asked.TheVariants.{BuiltIn, Script, Check, CheckPorts, CheckPolicy, Serve, Explain, ExplainPolicy, Tell}
use Rattle.agent_words.specs.declared.asked.Lasting.{Lasting}
use Rattle.agent_words.specs.Asking.{Inquiry, question_view}
use Rattle.agent_words.specs.declared.asked.Order.{Order}
use Rattle.agent_program.specs.Files.{IsReadOf}
use Rattle.agent_program.specs.Endings.{status_of, stated_of, read_failure, IsLineTaken}
use Rattle.agent_program.specs.Refusals.{EndsBy}
use Rattle.agent_program.specs.Runs.{IsUntouched, IsRunBy}
use Rattle.agent_program.specs.Services.{Service, OpensFile}
use Rattle.agent_program.specs.Reporting.{IsCheckOf, IsPortsCheckOf, IsPolicyCheckOf}
use Rattle.agent_program.specs.Commands.{SendsCommand}
use Rattle.agent_program.specs.Explanations.{IsExplanation, IsPolicyExplanation}

-- an end that leaves nothing to be served
abbrev pub nothing_left : Result (Unit {0}) Failure → Result (Option Service) Failure
nothing_left (Ok done) = Ok None
nothing_left (Err failure) = Err failure

-- what is left to be served
abbrev pub left_of : Result (Option Service) Failure → Option Service
left_of (Ok left) = left
left_of (Err failure) = None

-- The program did this and ended so, and nothing is left to be served.
pub record HasDone (Did : Result (Unit {0}) Failure → Type 0) (done : Result (Option Service) Failure)
    : Type 0 where
  pub ended : Result (Unit {0}) Failure
  pub did : Did ended
  pub is : done ≡ nothing_left ended

module _ {I O : Type 0} (remaining : I → Option (List ℕ)) (contents : O → Option (List ℕ)) where
  -- a run by these octets of this file, if of one, over the objects that were handed in, ended the
  -- program so
  pub record RunsBy (objects : List ObjectState) (file : Option (List ℕ)) (octets : List ℕ) (reader reader' : I)
      (writer writer' : O) (ended : Result (Unit {0}) Failure) : Type 0 where
    pub result : Result ScriptEnd NotRun
    pub run : IsRunBy remaining contents objects octets reader reader' writer writer' result
    pub is : EndsBy file octets result ended

  -- the program failed so before it read or wrote anything
  pub record FailsFirst (failure : Failure) (reader reader' : I) (writer writer' : O) (ended : Result (Unit {0}) Failure) : Type 0 where
    pub failed : ended ≡ Err failure
    pub untouched : IsUntouched remaining contents reader reader' writer writer'

  -- A run by what was read of a file: by its octets, and by nothing else where they were not had.
  abbrev pub RunsRead : List ObjectState → List ℕ → Result (List ℕ) NotRead → I → I → O → O
      → Result (Unit {0}) Failure → Type 0
  RunsRead objects file (Ok octets) reader reader' writer writer' ended =
      RunsBy objects (Some file) octets reader reader' writer writer' ended
  RunsRead objects file (Err why) reader reader' writer writer' ended =
      FailsFirst (read_failure why) reader reader' writer writer' ended

-- Beside these a reader of files, by what a read of the file of a name may give, and the objects
-- that were handed in.
module _ {I O : Type 0} (Gives : List ℕ → Result (List ℕ) NotRead → Type 0)
    (objects : List ObjectState) (remaining : I → Option (List ℕ))
    (contents : O → Option (List ℕ)) where
  -- a file was read, or not, and the program ran by what was read of it
  pub record RunsFile (file : List ℕ) (reader reader' : I) (writer writer' : O)
      (ended : Result (Unit {0}) Failure) : Type 0 where
    pub read : Result (List ℕ) NotRead
    pub is : IsReadOf Gives limit.Configuration file read
    pub ran : RunsRead remaining contents objects file read reader reader' writer writer' ended

  -- the program reported whether a file is a configuration, and read nothing else
  pub record ChecksFile (file : List ℕ) (reader reader' : I) (writer writer' : O)
      (ended : Result (Unit {0}) Failure) : Type 0 where
    pub unread : reader' ≡ reader
    pub checked : IsCheckOf Gives contents file writer writer' ended

  -- the program reported the sockets of a file's configuration, and read nothing else
  pub record ChecksPorts (file : List ℕ) (reader reader' : I) (writer writer' : O)
      (ended : Result (Unit {0}) Failure) : Type 0 where
    pub unread : reader' ≡ reader
    pub checked : IsPortsCheckOf Gives contents file writer writer' ended

  -- the program reported whether a file says a policy, and read nothing else
  pub record ChecksPolicy (file : List ℕ) (reader reader' : I) (writer writer' : O)
      (ended : Result (Unit {0}) Failure) : Type 0 where
    pub unread : reader' ≡ reader
    pub checked : IsPolicyCheckOf Gives contents file writer writer' ended

  -- the program stated what the policy of a file decides on the request that was asked about, and read
  -- nothing else
  pub record ExplainsPolicy (inquiry : Inquiry) (file : Bor (List ℕ)) (reader reader' : I) (writer writer' : O)
      (ended : Result (Unit {0}) Failure) : Type 0 where
    pub unread : reader' ≡ reader
    pub explained : IsPolicyExplanation Gives contents inquiry file writer writer' ended

  -- the program stated what a file's policy decides on the request that was asked about, and read
  -- nothing else
  pub record Explains (inquiry : Inquiry) (file : List ℕ) (reader reader' : I) (writer writer' : O)
      (ended : Result (Unit {0}) Failure) : Type 0 where
    pub unread : reader' ≡ reader
    pub explained : IsExplanation Gives contents inquiry file writer writer' ended

  -- what a file says is to be served, for so long; nothing else was read, and nothing written
  pub record ServesFile (file : List ℕ) (lasting : Lasting) (reader reader' : I) (writer writer' : O)
      (done : Result (Option Service) Failure) : Type 0 where
    pub untouched : IsUntouched remaining contents reader reader' writer writer'
    pub opens : OpensFile Gives objects lasting file done

-- Beside these an agent, by what it may answer at the control socket of a path to octets.
module _ {I O : Type 0} (Gives : List ℕ → Result (List ℕ) NotRead → Type 0)
    (Answers : List ℕ → List ℕ → Result (List ℕ) NoAnswer → Type 0) (objects : List ObjectState)
    (remaining : I → Option (List ℕ)) (contents : O → Option (List ℕ)) where
  -- the agent of this path was sent a command, and nothing else was read
  pub record Commands (path : Bor (List ℕ)) (order : Order) (reader reader' : I) (writer writer' : O)
      (ended : Result (Unit {0}) Failure) : Type 0 where
    pub unread : reader' ≡ reader
    pub sends : SendsCommand Gives Answers contents path order writer writer' ended

  -- What the program did for what is asked.
  abbrev pub Does : Asked → I → I → O → O → Result (Option Service) Failure → Type 0
  Does BuiltIn reader reader' writer writer' done =
      HasDone (RunsBy remaining contents objects None BUILT_IN.now reader reader' writer writer') done
  Does (Script file) reader reader' writer writer' done = HasDone
      (RunsFile Gives objects remaining contents file.now reader reader' writer writer') done
  Does (Check file) reader reader' writer writer' done = HasDone
      (ChecksFile Gives objects remaining contents file.now reader reader' writer writer') done
  Does (CheckPorts file) reader reader' writer writer' done = HasDone
      (ChecksPorts Gives objects remaining contents file.now reader reader' writer writer') done
  Does (CheckPolicy file) reader reader' writer writer' done = HasDone
      (ChecksPolicy Gives objects remaining contents file.now reader reader' writer writer') done
  Does (Serve file lasting) reader reader' writer writer' done =
      ServesFile Gives objects remaining contents file.now lasting reader reader' writer writer' done
  Does (Explain file question) reader reader' writer writer' done = HasDone
      (Explains Gives objects remaining contents (question_view question) file.now reader reader'
      writer writer') done
  Does (ExplainPolicy file question) reader reader' writer writer' done = HasDone
      (ExplainsPolicy Gives objects remaining contents (question_view question) file reader reader'
      writer writer') done
  Does (Tell path order) reader reader' writer writer' done =
      HasDone (Commands path order reader reader' writer writer') done

  -- The program did what is asked, and this is left to be served, if anything: its status is
  -- that of how it ended, and on standard error stands the line that says so, and the second where
  -- there is one, whole or a front of them behind which a write failed.
  pub record IsProgramRun (asked : Asked) (reader reader' : I) (writer writer' : O)
      (errors errors' : Option (List ℕ)) (finished : Ended) (left : Option Service) : Type 0 where
    pub done : Result (Option Service) Failure
    pub did : Does asked reader reader' writer writer' done
    pub status : finished.status ≡ status_of done
    pub stated : IsLineTaken finished.line errors errors' (stated_of done)
    pub left_is : left ≡ left_of done
