-- What the program says of the decision on a request, by the policy of a file's configuration.
use Rattle.std.specs.Prelude.{◌≡◌, ◌⊎◌, ℕ, List, Option, Some, Result, Ok, Err}
use Rattle.std.specs.Borrow.{Bor}
use Rattle.message_core.specs.declared.request.Kind.{Kind}
use Rattle.message_core.specs.declared.request.Kind.TheVariants as kind
use Rattle.message_core.specs.declared.request.Request.{Request}
use Rattle.configuration.specs.declared.configuration.Configuration.{Configuration}
use Rattle.community_core.specs.Communities.{PolicyTables}
use Rattle.configuration.specs.Configurations.{IsConfigurationIn}
use Rattle.configuration.specs.PolicyFiles.{IsPolicyIn}
use Rattle.explain.specs.Explaining.{explanation}
use Rattle.explain.specs.Questions.{IsQuestion, IsFirstNoName}
use Rattle.agent_words.specs.Asking.{Inquiry}
use Rattle.agent_words.specs.declared.asked.Operation.{Operation}
use Rattle.agent_words.specs.declared.asked.Operation.TheVariants.{Get, GetNext, GetBulk, Set}
use Rattle.agent_program.specs.declared.files.FileLimit.TheVariants as limit
use Rattle.agent_program.specs.declared.files.NotRead.{NotRead}
use Rattle.agent_program.specs.declared.opening.NotRun.{NotRun}
use Rattle.agent_program.specs.declared.failure.Failure.{Failure}
use Rattle.agent_program.specs.declared.failure.Failure.TheVariants.{NoName, PolicyRefusedFor, Run as RunFailed}
use Rattle.agent_program.specs.declared.failure.Refusal.{Refusal}
use Rattle.agent_program.specs.Endings.{read_failure, policy_read_failure}
use Rattle.agent_program.specs.Refusals.{IsFailureOf, IsPolicyWrong}
use Rattle.agent_program.specs.Files.{IsReadOf}
use Rattle.agent_program.specs.Runs.{IsNotOpened}
use Rattle.agent_program.specs.Reporting.{IsReported}

-- the PDU type of what a request does (RFC 3416, section 4.2)
abbrev pub kind_by : Operation → Kind
kind_by Get = kind.Get
kind_by GetNext = kind.GetNext
kind_by GetBulk = kind.GetBulk
kind_by Set = kind.Set

-- the request that is asked about
abbrev pub IsRequestOf : Inquiry → Request → Type 0
IsRequestOf inquiry request =
    IsQuestion (kind_by inquiry.operation) inquiry.community inquiry.names request

-- words make no request: there was no memory for it, or this is the first that is no name
abbrev pub IsQuestionFailure : List (List ℕ) → Failure → Type 0
IsQuestionFailure words failure =
    (failure ≡ RunFailed) ⊎ ((word : Bor (List ℕ)) × (failure ≡ NoName word) × IsFirstNoName words word.now)

-- the octets of a file explain nothing: there was no memory for the text, or they were not opened
abbrev pub IsNotExplained : List ℕ → List ℕ → Failure → Type 0
IsNotExplained file octets failure =
    (failure ≡ RunFailed)
    ⊎ ((why : NotRun) × IsFailureOf (Some file) octets why failure × IsNotOpened octets why)

-- the octets of a policy's file explain nothing: there was no memory for the text, or the policy is refused
abbrev pub IsPolicyNotExplained : Bor (List ℕ) → List ℕ → Failure → Type 0
IsPolicyNotExplained file octets failure =
    (failure ≡ RunFailed)
    ⊎ ((refusal : Refusal) × IsPolicyWrong octets refusal × (failure ≡ PolicyRefusedFor file refusal))

-- A writer that may report which octets it took.
module _ {O : Type 0} (contents : O → Option (List ℕ)) where
  -- the octets are a configuration, and what its policy decides on the request was written, whole or
  -- until the output failed
  pub record IsExplained (octets : List ℕ) (request : Request) (writer writer' : O)
      (ended : Result (Unit {0}) Failure) : Type 0 where
    pub configuration : Configuration
    pub stated : IsConfigurationIn octets configuration
    pub reported : IsReported contents (explanation configuration.policy request) writer writer' ended

  -- What an explanation by the octets of a file amounts to; where there is none, nothing was written.
  abbrev pub ExplainsOctets : Request → List ℕ → List ℕ → O → O → Result (Unit {0}) Failure → Type 0
  ExplainsOctets request file octets writer writer' (Ok done) =
      IsExplained octets request writer writer' (Ok done)
  ExplainsOctets request file octets writer writer' (Err failure) =
      IsExplained octets request writer writer' (Err failure) ⊎ (IsNotExplained file octets failure × (writer' ≡ writer))

  -- The same by what was read of a file.
  abbrev pub ExplainsRead : Request → List ℕ → Result (List ℕ) NotRead → O → O
      → Result (Unit {0}) Failure → Type 0
  ExplainsRead request file (Ok octets) writer writer' ended =
      ExplainsOctets request file octets writer writer' ended
  ExplainsRead request file (Err why) writer writer' ended =
      (ended ≡ Err (read_failure why)) × (writer' ≡ writer)

  -- the octets say a policy, and what it decides on the request was written, whole or until the output
  -- failed
  pub record IsPolicyExplained (octets : List ℕ) (request : Request) (writer writer' : O)
      (ended : Result (Unit {0}) Failure) : Type 0 where
    pub policy : PolicyTables
    pub stated : IsPolicyIn octets policy
    pub reported : IsReported contents (explanation policy request) writer writer' ended

  -- there is no explanation by the octets of a policy's file, and nothing was written
  pub record IsPolicyUnexplained (file : Bor (List ℕ)) (octets : List ℕ) (writer writer' : O)
      (ended : Result (Unit {0}) Failure) : Type 0 where
    pub failure : Failure
    pub why : IsPolicyNotExplained file octets failure
    pub failed : ended ≡ Err failure
    pub unwritten : writer' ≡ writer

  -- The same by what was read of a policy's file.
  abbrev pub ExplainsPolicyRead : Request → Bor (List ℕ) → Result (List ℕ) NotRead → O → O
      → Result (Unit {0}) Failure → Type 0
  ExplainsPolicyRead request file (Ok octets) writer writer' ended =
      IsPolicyExplained octets request writer writer' ended
      ⊎ IsPolicyUnexplained file octets writer writer' ended
  ExplainsPolicyRead request file (Err why) writer writer' ended =
      (ended ≡ Err (policy_read_failure why)) × (writer' ≡ writer)

-- Beside it a reader of files, by what a read of the file of a name may give.
module _ {O : Type 0} (Gives : List ℕ → Result (List ℕ) NotRead → Type 0)
    (contents : O → Option (List ℕ)) where
  -- a file was read, or not, and the decision on this request was explained by what was read of it
  pub record ExplainsFile (request : Request) (file : List ℕ) (writer writer' : O)
      (ended : Result (Unit {0}) Failure) : Type 0 where
    pub read : Result (List ℕ) NotRead
    pub is : IsReadOf Gives limit.Configuration file read
    pub explains : ExplainsRead contents request file read writer writer' ended

  -- the words make this request, and it was explained by a file
  pub record ExplainsAsked (inquiry : Inquiry) (file : List ℕ) (writer writer' : O)
      (ended : Result (Unit {0}) Failure) : Type 0 where
    pub request : Request
    pub asked : IsRequestOf inquiry request
    pub explains : ExplainsFile request file writer writer' ended

  -- the words make no request, and nothing was written
  pub record IsNoQuestion (inquiry : Inquiry) (writer writer' : O)
      (ended : Result (Unit {0}) Failure) : Type 0 where
    pub failure : Failure
    pub failed : ended ≡ Err failure
    pub why : IsQuestionFailure inquiry.names failure
    pub unwritten : writer' ≡ writer

  -- What an explanation by the words and a file amounts to.
  abbrev pub IsExplanation : Inquiry → List ℕ → O → O → Result (Unit {0}) Failure → Type 0
  IsExplanation inquiry file writer writer' ended =
      ExplainsAsked inquiry file writer writer' ended ⊎ IsNoQuestion inquiry writer writer' ended

  -- the file of a policy was read, or not, and the decision on this request was explained by what was read
  -- of it
  pub record ExplainsPolicyFile (request : Request) (file : Bor (List ℕ)) (writer writer' : O)
      (ended : Result (Unit {0}) Failure) : Type 0 where
    pub read : Result (List ℕ) NotRead
    pub is : IsReadOf Gives limit.Policy file.now read
    pub explains : ExplainsPolicyRead contents request file read writer writer' ended

  -- the words make this request, and it was explained by the file of a policy
  pub record ExplainsPolicyAsked (inquiry : Inquiry) (file : Bor (List ℕ)) (writer writer' : O)
      (ended : Result (Unit {0}) Failure) : Type 0 where
    pub request : Request
    pub asked : IsRequestOf inquiry request
    pub explains : ExplainsPolicyFile request file writer writer' ended

  -- What an explanation by the words and the file of a policy amounts to.
  abbrev pub IsPolicyExplanation : Inquiry → Bor (List ℕ) → O → O → Result (Unit {0}) Failure → Type 0
  IsPolicyExplanation inquiry file writer writer' ended =
      ExplainsPolicyAsked inquiry file writer writer' ended ⊎ IsNoQuestion inquiry writer writer' ended
