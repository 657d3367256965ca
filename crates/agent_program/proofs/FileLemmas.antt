-- What the program does with a file, by what was read of it.
use Rattle.std.proofs.Common.{ℕ, List, Option, Result, Ok, Vec, false, inl}
use Rattle.std.specs.Borrow.{Bor}
use Rattle.std.specs.declared.alloc.Global.{Global}
use Rattle.setphase_core.specs.Objects.{ObjectState}
use Rattle.agent_program.specs.declared.files.FileLimit.{FileLimit}
use Rattle.agent_program.specs.declared.files.FileLimit.TheVariants.{Configuration, Policy}
use Rattle.agent_program.specs.declared.files.NotRead.{NotRead}
use Rattle.agent_program.specs.declared.answering.NoAnswer.{NoAnswer}
use Rattle.agent_program.specs.declared.failure.Failure.{Failure}
use Rattle.agent_words.specs.declared.asked.Lasting.{Lasting}
use Rattle.agent_program.specs.Files.{IsReadWithin, IsReadOf, read_view}
use Rattle.message_core.specs.declared.request.Request.{Request}
use Rattle.agent_words.specs.Orders.{policy}
use Rattle.agent_program.specs.Commands.{EndsBy, IsPolicyCommand, IsPolicyEnd, heard, EndsOtherwise, EndsPolicy, SendsRead, SendsFile}
use Rattle.agent_program.specs.Explanations.{ExplainsRead, ExplainsFile, ExplainsPolicyRead, ExplainsPolicyFile}
use Rattle.agent_program.specs.Reporting.{IsFileChecked, IsCheckOf, IsPortsFileChecked, IsPortsCheckOf, IsPolicyFileChecked, IsPolicyCheckOf}
use Rattle.agent_program.specs.Services.{Service, OpensRead, OpensFile}
use Rattle.agent_program.specs.Programs.{RunsRead, RunsFile}

read_of : (Gives : List ℕ → Result (List ℕ) NotRead → Type 0) (limit : FileLimit) (file : List ℕ)
    (read : Result (Vec ℕ Global) NotRead) → IsReadWithin file limit (read_view read)
    → Gives file (read_view read) → IsReadOf Gives limit file (read_view read)
read_of Gives limit file read within gave = record { within_limit = within; gave = gave }

pub file_run : {I O : Type 0} (Gives : List ℕ → Result (List ℕ) NotRead → Type 0)
    (objects : List ObjectState) (remaining : I → Option (List ℕ))
    (contents : O → Option (List ℕ)) (file : List ℕ) (read : Result (Vec ℕ Global) NotRead) (reader reader' : I) (writer writer' : O)
    (ended : Result (Unit {0}) Failure) → IsReadWithin file Configuration (read_view read)
    → Gives file (read_view read)
    → RunsRead remaining contents objects file (read_view read) reader reader' writer writer' ended
    → RunsFile Gives objects remaining contents file reader reader' writer writer' ended
file_run Gives objects remaining contents file read reader reader' writer writer' ended within gave ran =
    record { read = read_view read; is = read_of Gives Configuration file read within gave; ran = ran }

pub file_check : {O : Type 0} (Gives : List ℕ → Result (List ℕ) NotRead → Type 0)
    (contents : O → Option (List ℕ)) (file : List ℕ) (read : Result (Vec ℕ Global) NotRead)
    (writer writer' : O) (ended : Result (Unit {0}) Failure)
    → IsReadWithin file Configuration (read_view read) → Gives file (read_view read)
    → IsFileChecked contents (read_view read) writer writer' ended
    → IsCheckOf Gives contents file writer writer' ended
file_check Gives contents file read writer writer' ended within gave checked =
    record { read = read_view read; is = read_of Gives Configuration file read within gave; checked = checked }

pub file_ports_check : {O : Type 0} (Gives : List ℕ → Result (List ℕ) NotRead → Type 0)
    (contents : O → Option (List ℕ)) (file : List ℕ) (read : Result (Vec ℕ Global) NotRead)
    (writer writer' : O) (ended : Result (Unit {0}) Failure)
    → IsReadWithin file Configuration (read_view read) → Gives file (read_view read)
    → IsPortsFileChecked contents (read_view read) writer writer' ended
    → IsPortsCheckOf Gives contents file writer writer' ended
file_ports_check Gives contents file read writer writer' ended within gave checked =
    record { read = read_view read; is = read_of Gives Configuration file read within gave; checked = checked }

pub file_policy_check : {O : Type 0} (Gives : List ℕ → Result (List ℕ) NotRead → Type 0)
    (contents : O → Option (List ℕ)) (file : List ℕ) (read : Result (Vec ℕ Global) NotRead)
    (writer writer' : O) (ended : Result (Unit {0}) Failure)
    → IsReadWithin file Policy (read_view read) → Gives file (read_view read)
    → IsPolicyFileChecked contents (read_view read) writer writer' ended
    → IsPolicyCheckOf Gives contents file writer writer' ended
file_policy_check Gives contents file read writer writer' ended within gave checked =
    record { read = read_view read; is = read_of Gives Policy file read within gave; checked = checked }

pub file_policy_explained : {O : Type 0} (Gives : List ℕ → Result (List ℕ) NotRead → Type 0)
    (contents : O → Option (List ℕ)) (request : Request) (file : Bor (List ℕ))
    (read : Result (Vec ℕ Global) NotRead) (writer writer' : O)
    (ended : Result (Unit {0}) Failure) → IsReadWithin file.now Policy (read_view read)
    → Gives file.now (read_view read)
    → ExplainsPolicyRead contents request file (read_view read) writer writer' ended
    → ExplainsPolicyFile Gives contents request file writer writer' ended
file_policy_explained Gives contents request file read writer writer' ended within gave explains =
    record { read = read_view read; is = read_of Gives Policy file.now read within gave; explains = explains }

pub file_explained : {O : Type 0} (Gives : List ℕ → Result (List ℕ) NotRead → Type 0)
    (contents : O → Option (List ℕ)) (request : Request) (file : List ℕ)
    (read : Result (Vec ℕ Global) NotRead) (writer writer' : O)
    (ended : Result (Unit {0}) Failure) → IsReadWithin file Configuration (read_view read)
    → Gives file (read_view read) → ExplainsRead contents request file (read_view read) writer writer' ended
    → ExplainsFile Gives contents request file writer writer' ended
file_explained Gives contents request file read writer writer' ended within gave explains =
    record { read = read_view read; is = read_of Gives Configuration file read within gave; explains = explains }

pub file_sent : {O : Type 0} (Gives : List ℕ → Result (List ℕ) NotRead → Type 0)
    (Answers : List ℕ → List ℕ → Result (List ℕ) NoAnswer → Type 0) (contents : O → Option (List ℕ))
    (path file : Bor (List ℕ)) (read : Result (Vec ℕ Global) NotRead) (writer writer' : O)
    (ended : Result (Unit {0}) Failure) → IsReadWithin file.now Policy (read_view read)
    → Gives file.now (read_view read) → SendsRead Answers contents path file (read_view read) writer writer' ended
    → SendsFile Gives Answers contents path file writer writer' ended
file_sent Gives Answers contents path file read writer writer' ended within gave sends =
    record { read = read_view read; is = read_of Gives Policy file.now read within gave; sends = sends }

pub ended_otherwise : {O : Type 0} (contents : O → Option (List ℕ)) (path file : Bor (List ℕ))
    (text : List ℕ) (answer : Result (List ℕ) NoAnswer) (writer writer' : O)
    (answered ended : Result (Unit {0}) Failure)
    → EndsBy contents path (policy file.now) answer writer writer' answered
    → IsPolicyEnd file text answered ended
    → EndsOtherwise contents path file text answer writer writer' ended
ended_otherwise contents path file text answer writer writer' answered ended by ends =
    record { answered = answered; by = by; ends = ends }

pub policy_sent : {O : Type 0} (Answers : List ℕ → List ℕ → Result (List ℕ) NoAnswer → Type 0)
    (contents : O → Option (List ℕ)) (path file : Bor (List ℕ)) (text octets : List ℕ)
    (answer : Result (List ℕ) NoAnswer) (writer writer' : O) (ended : Result (Unit {0}) Failure)
    → IsPolicyCommand text octets → Answers path.now octets answer
    → EndsPolicy contents path file text (heard false answer) writer writer' ended
    → SendsRead Answers contents path file (Ok text) writer writer' ended
policy_sent Answers contents path file text octets answer writer writer' ended command gave ends =
    inl (record { octets = octets; command = command; answer = answer; gave = gave; ends = ends })

pub file_served : (Gives : List ℕ → Result (List ℕ) NotRead → Type 0) (objects : List ObjectState)
    (lasting : Lasting) (file : List ℕ) (read : Result (Vec ℕ Global) NotRead)
    (done : Result (Option Service) Failure)
    → IsReadWithin file Configuration (read_view read) → Gives file (read_view read)
    → OpensRead objects lasting file (read_view read) done → OpensFile Gives objects lasting file done
file_served Gives objects lasting file read done within gave opens =
    record { read = read_view read; is = read_of Gives Configuration file read within gave; opens = opens }
