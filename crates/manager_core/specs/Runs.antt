-- What a run of a manager asks and writes.
use Rattle.std.specs.Prelude.{◌≡◌, ◌≢◌, ℕ, ◌≤◌, codes, List, [], ◌++◌, length, Option, Result, Ok, Err}
use Rattle.std.specs.Io.KnownBytes.{Appends}
use Rattle.std.specs.declared.net.socket_addr.SocketAddr.{SocketAddr}
use Rattle.oid_core.specs.Name.{HasRoot}
use Rattle.message_core.specs.Canon.{canon_request}
use Rattle.message_core.specs.Encodable.{AreEncodable}
use Rattle.message_core.specs.declared.limits.TheConstants.{MAX_COMMUNITY, MAX_REQUEST}
use Rattle.message_core.specs.declared.binding.Binding.{Binding}
use Rattle.wire_core.specs.Acts.{Act}
use Rattle.manager_core.specs.declared.fault.ManagerFault.{ManagerFault}
use Rattle.manager_core.specs.declared.fault.ManagerFault.TheVariants.{Memory}
use Rattle.manager_core.specs.declared.run.ManagerOperation.{ManagerOperation}
use Rattle.manager_core.specs.declared.run.ManagerOperation.TheVariants.{Ask, Walk}
use Rattle.manager_core.specs.declared.run.Failure.{Failure}
use Rattle.manager_core.specs.declared.run.Failure.TheVariants.{Fault, Output}
use Rattle.manager_core.specs.declared.command.Command.{Command}
use Rattle.manager_core.specs.Asks.{HasAsked}
use Rattle.manager_core.specs.Walks.{HasWalked}
use Rattle.manager_core.specs.Lines.{lines_of, fault_text}

-- The names can be encoded, and the request fits into a datagram; a walk's requests do where its
-- community is short.
abbrev pub IsAskable : ManagerOperation → Type 0
IsAskable (Ask r) = AreEncodable r.bindings × (length (canon_request r) ≤ MAX_REQUEST)
IsAskable (Walk community root) = (length community ≤ MAX_COMMUNITY) × HasRoot root

-- Between two states of a wire an errand was done, and ended so.
abbrev pub HasFound : {W : Type 0} → (W → List Act → W → Type 0) → SocketAddr → ManagerOperation → ℕ → W → Result (List Binding) ManagerFault → W → Type 0
HasFound went peer (Ask r) tries a end b = HasAsked went peer r tries a end b
HasFound went peer (Walk community root) tries a end b =
    HasWalked went peer community root tries a end b

-- an output took a front of this text, and nothing else
pub record TakesFront (old new : Option (List ℕ)) (text : List ℕ) : Type 0 where
  pub front : List ℕ
  pub rest : List ℕ
  pub whole : text ≡ front ++ rest
  pub took : Appends old new front

-- A text was written whole; or it has octets, there was no memory for it, and nothing was written;
-- or the output failed, and a front of it was written.
abbrev pub IsWritten : {O : Type 0} → (O → Option (List ℕ)) → List ℕ → O → Result (Unit {0}) Failure → O → Type 0
IsWritten contents text old (Ok done) new = Appends (contents old) (contents new) text
IsWritten contents text old (Err (Fault fault)) new =
    (fault ≡ Memory) × (text ≢ []) × (new ≡ old)
IsWritten contents text old (Err Output) new = TakesFront (contents old) (contents new) text

-- What was found is written, a line for each binding, or a front of that where the output fails; a
-- fault writes nothing.
abbrev pub IsRun : {O : Type 0} → (O → Option (List ℕ)) → Result (List Binding) ManagerFault → O → Result (Unit {0}) Failure → O → Type 0
IsRun contents (Ok found) old result new = IsWritten contents (lines_of found) old result new
IsRun contents (Err fault) old result new = (result ≡ Err (Fault fault)) × (new ≡ old)

-- What a failure is called.
abbrev pub failure_text : Failure → List ℕ
failure_text (Fault fault) = fault_text fault
failure_text Output = codes "output failed"

-- The exit status of a command that is done.
abbrev pub status_of : Result (Unit {0}) Failure → ℕ
status_of (Ok done) = 0
status_of (Err failure) = 1

-- Between two states of a wire and of an output a command was done, with this exit status.
abbrev pub HasRun : {W O : Type 0} → (W → List Act → W → Type 0) → (O → Option (List ℕ)) → Command → W → O → ℕ → W → O → Type 0
HasRun went contents c a old status b new =
    (end : Result (List Binding) ManagerFault) × (ran : Result (Unit {0}) Failure) × HasFound went c.agent c.errand c.tries a end b × IsRun contents end old ran new × (status ≡ status_of ran)
