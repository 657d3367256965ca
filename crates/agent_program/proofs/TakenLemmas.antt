-- What is printed where an agent took a policy.
use Rattle.std.proofs.Common.{◌≡◌, ℕ, List, Option, Result, inl, inr, refl}
use Rattle.community_core.specs.Communities.{PolicyTables}
use Rattle.configuration.specs.declared.fault.ConfigurationFault.{ConfigurationFault}
use Rattle.configuration.specs.PolicyFiles.{IsPolicyIn, IsPolicyFaultIn}
use Rattle.configuration.specs.Warnings.{policy_warnings}
use Rattle.agent_program.specs.declared.failure.Failure.{Failure}
use Rattle.agent_program.specs.Warned.{warned_text}
use Rattle.agent_program.specs.Reporting.{IsReported}
use Rattle.agent_program.specs.Commands.{taken_answer, unwarned_text, IsWarnedPrinted, IsTakenPrinted}

-- the policy's warnings
pub warned : {O : Type 0} (contents : O → Option (List ℕ)) (policy : PolicyTables) (text : List ℕ)
    (writer writer' : O) (ended : Result (Unit {0}) Failure)
    → text ≡ warned_text taken_answer (policy_warnings policy) → IsReported contents text writer writer' ended
    → IsWarnedPrinted contents policy writer writer' ended
warned contents policy text writer writer' ended is reported =
    record { printed = text; of = inl is; reported = reported }

-- there was no memory for them
pub unwarned : {O : Type 0} (contents : O → Option (List ℕ)) (policy : PolicyTables)
    (writer writer' : O) (ended : Result (Unit {0}) Failure)
    → IsReported contents unwarned_text writer writer' ended
    → IsWarnedPrinted contents policy writer writer' ended
unwarned contents policy writer writer' ended reported =
    record { printed = unwarned_text; of = inr refl; reported = reported }

-- the octets say the policy
pub taken : {O : Type 0} (contents : O → Option (List ℕ)) (octets : List ℕ) (policy : PolicyTables)
    (writer writer' : O) (ended : Result (Unit {0}) Failure)
    → IsPolicyIn octets policy → IsWarnedPrinted contents policy writer writer' ended
    → IsTakenPrinted contents octets writer writer' ended
taken contents octets policy writer writer' ended stated warned =
    record { printed = warned.printed; of = inl (policy, stated, warned.of); reported = warned.reported }

-- they have this fault
pub taken_wrong : {O : Type 0} (contents : O → Option (List ℕ)) (octets : List ℕ) (fault : ConfigurationFault)
    (writer writer' : O) (ended : Result (Unit {0}) Failure)
    → IsPolicyFaultIn octets fault → IsReported contents taken_answer writer writer' ended
    → IsTakenPrinted contents octets writer writer' ended
taken_wrong contents octets fault writer writer' ended found reported =
    record { printed = taken_answer; of = inr (inl (fault, found, refl)); reported = reported }

-- there was no memory to read them
pub taken_unread : {O : Type 0} (contents : O → Option (List ℕ)) (octets : List ℕ)
    (writer writer' : O) (ended : Result (Unit {0}) Failure)
    → IsReported contents unwarned_text writer writer' ended
    → IsTakenPrinted contents octets writer writer' ended
taken_unread contents octets writer writer' ended reported =
    record { printed = unwarned_text; of = inr (inr refl); reported = reported }
