-- Why the octets of a configuration were not run or served, as a failure of the program.
use Rattle.std.specs.Prelude.{◌≡◌, ◌⊎◌, ℕ, List, Option, Some, None, Result, Ok, Err, option_map, string_bytes}
use Rattle.std.specs.Borrow.{Bor}
use Rattle.agent_script.specs.declared.session.ScriptEnd.{ScriptEnd}
use Rattle.configuration.specs.declared.fault.ConfigurationFault.{ConfigurationFault}
use Rattle.community_core.specs.Communities.{PolicyTables}
use Rattle.policy_text.specs.Texts.{HasContent}
use Rattle.configuration.specs.Details.{IsSentenceIn}
use Rattle.configuration.specs.PolicyFiles.{IsPolicyIn, IsPolicyFaultIn, IsPolicySentenceIn}
use Rattle.agent_program.specs.declared.opening.NotRun.{NotRun}
use Rattle.agent_program.specs.declared.opening.NotRun.TheVariants.{Refused as IsRefused, Unserved, Memory, NoRegistry, Stopped}
use Rattle.agent_program.specs.declared.failure.Failure.{Failure}
use Rattle.agent_program.specs.declared.failure.Failure.TheVariants.{Refused}
use Rattle.agent_program.specs.declared.failure.Refusal.{Refusal}
use Rattle.agent_program.specs.declared.failure.Refusal.TheVariants as refused
use Rattle.agent_program.specs.Endings.{refused_for, run_failure}

-- the octets are refused for this fault: by the sentence on it, or there was no memory for that
abbrev pub IsRefusalOf : List ℕ → ConfigurationFault → Refusal → Type 0
IsRefusalOf octets fault (refused.Fault sentence) = IsSentenceIn octets fault (string_bytes sentence)
IsRefusalOf octets fault refused.NoSentence = Unit {0}
IsRefusalOf octets fault refused.Memory = ⊥
IsRefusalOf octets fault (refused.Unserved why) = ⊥
IsRefusalOf octets fault refused.ByAgent = ⊥

-- the octets of a policy's file say none, and are refused for this: by the sentence on their first fault,
-- for which there may be no memory, as for the policy
abbrev pub IsPolicyWrong : List ℕ → Refusal → Type 0
IsPolicyWrong octets (refused.Fault sentence) =
    (fault : ConfigurationFault) × IsPolicyFaultIn octets fault
    × IsPolicySentenceIn octets fault (string_bytes sentence)
IsPolicyWrong octets refused.NoSentence =
    (fault : ConfigurationFault) × IsPolicyFaultIn octets fault
IsPolicyWrong octets refused.Memory = HasContent octets
IsPolicyWrong octets (refused.Unserved why) = ⊥
IsPolicyWrong octets refused.ByAgent = ⊥

-- an agent refused the octets of a policy's file for this: they say none, or all the same
abbrev pub IsPolicyRefusal : List ℕ → Refusal → Type 0
IsPolicyRefusal octets refusal =
    IsPolicyWrong octets refusal
    ⊎ ((refusal ≡ refused.ByAgent) × (policy : PolicyTables) × IsPolicyIn octets policy)

-- the configuration of this file, if of one, is refused, and this is why
pub record IsRefusedFor (file : Option (List ℕ)) (Why : Refusal → Type 0) (failure : Failure) : Type 0 where
  pub name : Option (Bor (List ℕ))
  pub of_file : option_map (λ named. named.now) name ≡ file
  pub refusal : Refusal
  pub why : Why refusal
  pub is : failure ≡ refused_for name refusal

-- What comes of the octets of this file, if of one, that were not run or served: what is refused is by
-- their first fault.
abbrev pub IsFailureOf : Option (List ℕ) → List ℕ → NotRun → Failure → Type 0
IsFailureOf file octets (IsRefused fault) failure = IsRefusedFor file (IsRefusalOf octets fault) failure
IsFailureOf file octets (Unserved why) failure =
    IsRefusedFor file (λ refusal. refusal ≡ refused.Unserved why) failure
IsFailureOf file octets Memory failure =
    IsRefusedFor file (λ refusal. refusal ≡ refused.Memory) failure
IsFailureOf file octets NoRegistry failure = failure ≡ Refused
IsFailureOf file octets (Stopped fault) failure = failure ≡ run_failure fault

-- the program failed so
pub record FailsBy (file : Option (List ℕ)) (octets : List ℕ) (why : NotRun) {A : Type 0} (ended : Result A Failure) : Type 0 where
  pub failure : Failure
  pub comes : IsFailureOf file octets why failure
  pub is : ended ≡ Err failure

-- how the program ends by a run of these octets
abbrev pub EndsBy : Option (List ℕ) → List ℕ → Result ScriptEnd NotRun → Result (Unit {0}) Failure → Type 0
EndsBy file octets (Ok run) ended = ended ≡ Ok tt
EndsBy file octets (Err why) ended = FailsBy file octets why ended
