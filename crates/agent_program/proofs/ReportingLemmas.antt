-- What is reported of octets, case by case.
use Rattle.std.proofs.Common.{ℕ, List, Option}
use Rattle.configuration.specs.declared.fault.ConfigurationFault.{ConfigurationFault}
use Rattle.agent_program.specs.declared.failure.Failure.{Failure}
use Rattle.agent_program.specs.declared.failure.Failure.TheVariants.{NotText, NoName, CannotRead, TooLarge, Refused, RefusedFor, Input, Output, Unanswered, NotDone, PolicyNotDone, PolicyRefused, PolicyRefusedFor, Run as RunFailed}
use Rattle.agent_program.specs.Reporting.{IsFaultText, IsCutOff, IsFaultReported}

-- a sentence that was cut off
pub cut_reported : {O : Type 0} (contents : O → Option (List ℕ)) (octets : List ℕ) (fault : ConfigurationFault) (text : List ℕ) (writer writer' : O) (failure : Failure)
    → IsFaultText octets fault text → IsCutOff contents text writer writer' failure → IsFaultReported contents octets fault writer writer' failure
cut_reported contents octets fault text writer writer' NotText stated cut = absurd cut
cut_reported contents octets fault text writer writer' (NoName word) stated cut = absurd cut
cut_reported contents octets fault text writer writer' (CannotRead file reason) stated cut = absurd cut
cut_reported contents octets fault text writer writer' (TooLarge file limit) stated cut = absurd cut
cut_reported contents octets fault text writer writer' Refused stated cut = absurd cut
cut_reported contents octets fault text writer writer' (RefusedFor file refusal) stated cut = absurd cut
cut_reported contents octets fault text writer writer' Input stated cut = absurd cut
cut_reported contents octets fault text writer writer' Output stated cut = record { text = text; on_fault = stated; wrote = cut }
cut_reported contents octets fault text writer writer' (Unanswered path why) stated cut = absurd cut
cut_reported contents octets fault text writer writer' (NotDone why) stated cut = absurd cut
cut_reported contents octets fault text writer writer' (PolicyNotDone file refusal) stated cut = absurd cut
cut_reported contents octets fault text writer writer' PolicyRefused stated cut = absurd cut
cut_reported contents octets fault text writer writer' (PolicyRefusedFor file refusal) stated cut = absurd cut
cut_reported contents octets fault text writer writer' RunFailed stated cut = absurd cut
