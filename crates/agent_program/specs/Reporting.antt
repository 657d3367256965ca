-- What is written of a text, and what a check reports of octets.
use Rattle.std.specs.Prelude.{◌≡◌, ◌≢◌, ◌⊎◌, ℕ, ◌+◌, codes, decimal, List, [], ◌∷◌, ◌++◌, Option, Some, None, Result, Ok, Err}
use Rattle.std.specs.Io.KnownBytes.{Appends}
use Rattle.std.specs.Net.Text.{socket_text}
use Rattle.policy_text.specs.Texts.{HasContent}
use Rattle.configuration.specs.declared.configuration.Configuration.{Configuration}
use Rattle.configuration.specs.declared.fault.ConfigurationFault.{ConfigurationFault}
use Rattle.configuration.specs.declared.fault.ConfigurationFault.TheVariants.{Memory}
use Rattle.configuration.specs.Configurations.{IsConfigurationIn, IsFaultIn}
use Rattle.community_core.specs.Communities.{PolicyTables}
use Rattle.configuration.specs.Details.{IsSentenceIn}
use Rattle.configuration.specs.PolicyFiles.{IsPolicyIn, IsPolicyFaultIn, IsPolicySentenceIn}
use Rattle.configuration.specs.Warnings.{policy_warnings, warnings_of}
use Rattle.udp_agent.specs.Setups.{IsSetup, IsUnserved}
use Rattle.udp_agent.specs.declared.setup.PortSockets.{PortSockets}
use Rattle.udp_agent.specs.declared.setup.Setup.{Setup}
use Rattle.udp_agent.specs.declared.setup.Unserved.{Unserved}
use Rattle.udp_agent.specs.declared.setup.Unserved.TheVariants.{NoServe, NoSockets}
use Rattle.agent_program.specs.declared.files.FileLimit.TheVariants as limit
use Rattle.agent_program.specs.declared.files.NotRead.{NotRead}
use Rattle.agent_program.specs.declared.files.NotRead.TheVariants.{Memory as FileMemory, Unreadable, TooLarge as FileTooLarge}
use Rattle.agent_program.specs.declared.failure.Failure.{Failure}
use Rattle.agent_program.specs.declared.failure.Failure.TheVariants.{NotText, NoName, CannotRead, TooLarge, Refused, RefusedFor, Input, Output, Unanswered, NotDone, PolicyNotDone, PolicyRefused, PolicyRefusedFor, Run as RunFailed}
use Rattle.agent_program.specs.Endings.{TakesFront}
use Rattle.agent_program.specs.Files.{IsReadOf}
use Rattle.agent_program.specs.Warned.{warned_text}

-- what is stated of a configuration: a script can run by it, and it can be served, or why it cannot
abbrev pub ok_text : Option Unserved → List ℕ
ok_text None = codes "configuration ok for script and serve\n"
ok_text (Some NoServe) = codes "configuration ok for script, not for serve: no [serve]\n"
ok_text (Some NoSockets) =
    codes "configuration ok for script, not for serve: a port without listen or peer\n"

-- This is stated of a configuration: whether it can be served, or why not, and what is warned of in it.
pub record IsRightText (configuration : Configuration) (text : List ℕ) : Type 0 where
  pub why : Option Unserved
  pub unserved : IsUnserved configuration.ports.items configuration.serve why
  pub is : text ≡ warned_text (ok_text why) (warnings_of configuration)

-- this is stated of a fault of octets: its sentence, as a line
pub record IsFaultText (octets : List ℕ) (fault : ConfigurationFault) (text : List ℕ) : Type 0 where
  pub sentence : List ℕ
  pub on_fault : IsSentenceIn octets fault sentence
  pub is : text ≡ sentence ++ codes "\n"

-- a text on a fault of octets was written, whole or a front of it
pub record IsFaultWritten (octets : List ℕ) (fault : ConfigurationFault) (Wrote : List ℕ → Type 0)
    : Type 0 where
  pub text : List ℕ
  pub on_fault : IsFaultText octets fault text
  pub wrote : Wrote text

-- this is the first fault of the octets, unless it is want of memory, which says of them only that
-- they are a text that is not blank
abbrev pub IsFaultFound : List ℕ → ConfigurationFault → Type 0
IsFaultFound octets fault =
    (fault ≢ Memory → IsFaultIn octets fault) × (fault ≡ Memory → HasContent octets)

-- A writer that may report which octets it took.
module _ {O : Type 0} (contents : O → Option (List ℕ)) where
  -- A failure of the output: a front of this text was written.
  abbrev pub IsCutOff : List ℕ → O → O → Failure → Type 0
  IsCutOff text writer writer' NotText = ⊥
  IsCutOff text writer writer' (NoName word) = ⊥
  IsCutOff text writer writer' (CannotRead file reason) = ⊥
  IsCutOff text writer writer' (TooLarge file limit) = ⊥
  IsCutOff text writer writer' Refused = ⊥
  IsCutOff text writer writer' (RefusedFor file refusal) = ⊥
  IsCutOff text writer writer' Input = ⊥
  IsCutOff text writer writer' Output = TakesFront (contents writer) (contents writer') text
  IsCutOff text writer writer' (Unanswered path why) = ⊥
  IsCutOff text writer writer' (NotDone why) = ⊥
  IsCutOff text writer writer' (PolicyNotDone file refusal) = ⊥
  IsCutOff text writer writer' PolicyRefused = ⊥
  IsCutOff text writer writer' (PolicyRefusedFor file refusal) = ⊥
  IsCutOff text writer writer' RunFailed = ⊥

  -- This text was written, or a front of it until the output failed.
  abbrev pub IsReported : List ℕ → O → O → Result (Unit {0}) Failure → Type 0
  IsReported text writer writer' (Ok done) = Appends (contents writer) (contents writer') text
  IsReported text writer writer' (Err failure) = IsCutOff text writer writer' failure

  -- A fault of octets was reported, and the configuration is refused; or the output failed before its
  -- end; or there was no memory for its sentence, and nothing was written.
  abbrev pub IsFaultReported : List ℕ → ConfigurationFault → O → O → Failure → Type 0
  IsFaultReported octets fault writer writer' NotText = ⊥
  IsFaultReported octets fault writer writer' (NoName word) = ⊥
  IsFaultReported octets fault writer writer' (CannotRead file reason) = ⊥
  IsFaultReported octets fault writer writer' (TooLarge file limit) = ⊥
  IsFaultReported octets fault writer writer' Refused =
      IsFaultWritten octets fault (Appends (contents writer) (contents writer'))
  IsFaultReported octets fault writer writer' (RefusedFor file refusal) = ⊥
  IsFaultReported octets fault writer writer' Input = ⊥
  IsFaultReported octets fault writer writer' Output =
      IsFaultWritten octets fault (TakesFront (contents writer) (contents writer'))
  IsFaultReported octets fault writer writer' (Unanswered path why) = ⊥
  IsFaultReported octets fault writer writer' (NotDone why) = ⊥
  IsFaultReported octets fault writer writer' (PolicyNotDone file refusal) = ⊥
  IsFaultReported octets fault writer writer' PolicyRefused = ⊥
  IsFaultReported octets fault writer writer' (PolicyRefusedFor file refusal) = ⊥
  IsFaultReported octets fault writer writer' RunFailed = writer' ≡ writer

  -- the octets are no configuration, and that is reported
  pub record IsRefusalReported (octets : List ℕ) (writer writer' : O) (failure : Failure) : Type 0 where
    pub fault : ConfigurationFault
    pub found : IsFaultFound octets fault
    pub reported : IsFaultReported octets fault writer writer' failure

  -- the text on a configuration was written, whole or until the output failed
  pub record IsRightWritten (configuration : Configuration) (writer writer' : O) (ended : Result (Unit {0}) Failure) : Type 0 where
    pub text : List ℕ
    pub of : IsRightText configuration text
    pub wrote : IsReported text writer writer' ended

  -- A configuration was reported; or there was no memory for its warnings, and nothing was written.
  abbrev pub IsConfigurationReported : Configuration → O → O → Result (Unit {0}) Failure → Type 0
  IsConfigurationReported configuration writer writer' (Ok done) =
      IsRightWritten configuration writer writer' (Ok done)
  IsConfigurationReported configuration writer writer' (Err failure) =
      IsRightWritten configuration writer writer' (Err failure) ⊎ ((failure ≡ RunFailed) × (writer' ≡ writer))

  -- the octets are a configuration, and that is reported
  pub record IsRightReported (octets : List ℕ) (writer writer' : O) (ended : Result (Unit {0}) Failure) : Type 0 where
    pub configuration : Configuration
    pub stated : IsConfigurationIn octets configuration
    pub reported : IsConfigurationReported configuration writer writer' ended

  -- What a check of octets amounts to.
  abbrev pub IsChecked : List ℕ → O → O → Result (Unit {0}) Failure → Type 0
  IsChecked octets writer writer' (Ok done) = IsRightReported octets writer writer' (Ok done)
  IsChecked octets writer writer' (Err failure) =
      IsRightReported octets writer writer' (Err failure) ⊎ IsRefusalReported octets writer writer' failure

  -- there was no memory to read a configuration, and that is reported
  pub record IsWantReported (writer writer' : O) (ended : Result (Unit {0}) Failure) : Type 0 where
    pub failure : Failure
    pub failed : ended ≡ Err failure
    pub reported : IsFaultReported [] Memory writer writer' failure

  -- What a check of what was read of a file amounts to: want of memory for its octets is reported as that
  -- for the configuration; of a file that cannot be read, or has too many
  -- octets, nothing is reported.
  abbrev pub IsFileChecked : Result (List ℕ) NotRead → O → O → Result (Unit {0}) Failure → Type 0
  IsFileChecked (Ok octets) writer writer' ended = IsChecked octets writer writer' ended
  IsFileChecked (Err (FileMemory file)) writer writer' ended = IsWantReported writer writer' ended
  IsFileChecked (Err (Unreadable file reason)) writer writer' ended =
      (ended ≡ Err (CannotRead file reason)) × (writer' ≡ writer)
  IsFileChecked (Err (FileTooLarge file limit)) writer writer' ended =
      (ended ≡ Err (TooLarge file limit)) × (writer' ≡ writer)

-- ---- a policy

-- what is stated of a policy: a served agent may be given it, and what is warned of in it
abbrev pub policy_text : PolicyTables → List ℕ
policy_text policy =
    warned_text (codes "policy ok for tell and explain\n") (policy_warnings policy)

-- this is the first fault of the octets of a policy's file, unless it is want of memory
abbrev pub IsPolicyFaultFound : List ℕ → ConfigurationFault → Type 0
IsPolicyFaultFound octets fault =
    (fault ≢ Memory → IsPolicyFaultIn octets fault) × (fault ≡ Memory → HasContent octets)

-- this is stated of a fault of the octets of a policy's file: its sentence, as a line
pub record IsPolicyFaultText (octets : List ℕ) (fault : ConfigurationFault) (text : List ℕ) : Type 0 where
  pub sentence : List ℕ
  pub on_fault : IsPolicySentenceIn octets fault sentence
  pub is : text ≡ sentence ++ codes "\n"

-- how the program ends behind the text on a fault: the policy is refused, unless the output failed
abbrev pub refused_policy : Result (Unit {0}) Failure → Failure
refused_policy (Ok done) = PolicyRefused
refused_policy (Err failure) = failure

module _ {O : Type 0} (contents : O → Option (List ℕ)) where
  -- the text on a fault of the octets of a policy's file was written, whole or until the output failed
  pub record IsPolicyFaultWritten (octets : List ℕ) (fault : ConfigurationFault) (writer writer' : O)
      (failure : Failure) : Type 0 where
    pub text : List ℕ
    pub on_fault : IsPolicyFaultText octets fault text
    pub printed : Result (Unit {0}) Failure
    pub reported : IsReported contents text writer writer' printed
    pub is : failure ≡ refused_policy printed

  -- the same, or there was no memory for its sentence, and nothing was written
  abbrev pub IsPolicyFaultReported : List ℕ → ConfigurationFault → O → O → Failure → Type 0
  IsPolicyFaultReported octets fault writer writer' failure =
      IsPolicyFaultWritten octets fault writer writer' failure
      ⊎ ((failure ≡ RunFailed) × (writer' ≡ writer))

  -- The text on a policy was written, whole or until the output failed; or there was no memory for its
  -- warnings, and nothing was written.
  abbrev pub IsPolicyWritten : PolicyTables → O → O → Result (Unit {0}) Failure → Type 0
  IsPolicyWritten policy writer writer' ended =
      IsReported contents (policy_text policy) writer writer' ended
      ⊎ ((ended ≡ Err RunFailed) × (writer' ≡ writer))

  -- the octets say a policy, and that is reported
  pub record IsPolicyReported (octets : List ℕ) (writer writer' : O) (ended : Result (Unit {0}) Failure)
      : Type 0 where
    pub policy : PolicyTables
    pub stated : IsPolicyIn octets policy
    pub reported : IsPolicyWritten policy writer writer' ended

  -- the octets say no policy, and that is reported
  pub record IsNoPolicyReported (octets : List ℕ) (writer writer' : O)
      (ended : Result (Unit {0}) Failure) : Type 0 where
    pub fault : ConfigurationFault
    pub found : IsPolicyFaultFound octets fault
    pub failure : Failure
    pub reported : IsPolicyFaultReported octets fault writer writer' failure
    pub is : ended ≡ Err failure

  -- What a check of the octets of a policy's file amounts to.
  abbrev pub IsPolicyChecked : List ℕ → O → O → Result (Unit {0}) Failure → Type 0
  IsPolicyChecked octets writer writer' ended =
      IsPolicyReported octets writer writer' ended ⊎ IsNoPolicyReported octets writer writer' ended

  -- there was no memory to read a policy, and that is reported
  pub record IsPolicyWantReported (writer writer' : O) (ended : Result (Unit {0}) Failure) : Type 0 where
    pub failure : Failure
    pub reported : IsPolicyFaultReported [] Memory writer writer' failure
    pub is : ended ≡ Err failure

  -- What a check of what was read of a policy's file amounts to.
  abbrev pub IsPolicyFileChecked : Result (List ℕ) NotRead → O → O → Result (Unit {0}) Failure → Type 0
  IsPolicyFileChecked (Ok octets) writer writer' ended = IsPolicyChecked octets writer writer' ended
  IsPolicyFileChecked (Err (FileMemory file)) writer writer' ended =
      IsPolicyWantReported writer writer' ended
  IsPolicyFileChecked (Err (Unreadable file reason)) writer writer' ended =
      (ended ≡ Err (CannotRead file reason)) × (writer' ≡ writer)
  IsPolicyFileChecked (Err (FileTooLarge file limit)) writer writer' ended =
      (ended ≡ Err (TooLarge file limit)) × (writer' ≡ writer)

-- ---- the sockets of a configuration

-- a port as a line: its number, where its frames come in, and where they go out to
abbrev pub port_line : ℕ → PortSockets → List ℕ
port_line number port =
    decimal number
    ++ (codes " " ++ (socket_text port.listen ++ (codes " " ++ (socket_text port.peer ++ codes "\n"))))

-- ports, the first of which has this number
abbrev pub port_lines : ℕ → List PortSockets → List ℕ
port_lines number [] = []
port_lines number (port ∷ ports) = port_line number port ++ port_lines (number + 1) ports

-- the socket of requests as a line
abbrev pub requests_line : Setup → List ℕ
requests_line setup = codes "snmp " ++ (socket_text setup.serve.snmp ++ codes "\n")

-- What is stated of the sockets of a setup: that of requests, and behind it those of each port.
abbrev pub sockets_text : Setup → List ℕ
sockets_text setup = requests_line setup ++ port_lines 1 setup.ports.items

-- how the program ends behind the text on what cannot be served: it is refused, unless the output failed
abbrev pub refused_unserved : Result (Unit {0}) Failure → Failure
refused_unserved (Ok done) = Refused
refused_unserved (Err failure) = failure

module _ {O : Type 0} (contents : O → Option (List ℕ)) where
  -- The sockets of a setup were written, whole or until the output failed; or there was no memory for their
  -- text, and nothing was written.
  abbrev pub IsSocketsWritten : Setup → O → O → Result (Unit {0}) Failure → Type 0
  IsSocketsWritten setup writer writer' ended =
      IsReported contents (sockets_text setup) writer writer' ended
      ⊎ ((ended ≡ Err RunFailed) × (writer' ≡ writer))

  -- why something cannot be served was written, as a check states it, whole or until the output failed
  pub record IsUnservedWritten (why : Unserved) (writer writer' : O) (failure : Failure) : Type 0 where
    pub printed : Result (Unit {0}) Failure
    pub reported : IsReported contents (ok_text (Some why)) writer writer' printed
    pub is : failure ≡ refused_unserved printed

  -- a configuration can be served, and its sockets are reported
  pub record HasSocketsReported (configuration : Configuration) (writer writer' : O)
      (ended : Result (Unit {0}) Failure) : Type 0 where
    pub setup : Setup
    pub is : IsSetup configuration.address configuration.ports.items configuration.serve setup
    pub reported : IsSocketsWritten setup writer writer' ended

  -- a configuration cannot be served, and that is reported
  pub record LacksSocketsReported (configuration : Configuration) (writer writer' : O)
      (ended : Result (Unit {0}) Failure) : Type 0 where
    pub why : Unserved
    pub unserved : IsUnserved configuration.ports.items configuration.serve (Some why)
    pub failure : Failure
    pub reported : IsUnservedWritten why writer writer' failure
    pub is : ended ≡ Err failure

  abbrev pub IsSocketsReported : Configuration → O → O → Result (Unit {0}) Failure → Type 0
  IsSocketsReported configuration writer writer' ended =
      HasSocketsReported configuration writer writer' ended
      ⊎ LacksSocketsReported configuration writer writer' ended

  -- the octets are a configuration, and its sockets are reported, or that it has none
  pub record IsPortsReported (octets : List ℕ) (writer writer' : O) (ended : Result (Unit {0}) Failure)
      : Type 0 where
    pub configuration : Configuration
    pub stated : IsConfigurationIn octets configuration
    pub reported : IsSocketsReported configuration writer writer' ended

  -- the octets are no configuration, and that is reported, as by a check
  pub record IsNoPortsReported (octets : List ℕ) (writer writer' : O) (ended : Result (Unit {0}) Failure)
      : Type 0 where
    pub failure : Failure
    pub reported : IsRefusalReported contents octets writer writer' failure
    pub is : ended ≡ Err failure

  -- What a check of octets for their sockets amounts to.
  abbrev pub IsPortsChecked : List ℕ → O → O → Result (Unit {0}) Failure → Type 0
  IsPortsChecked octets writer writer' ended =
      IsPortsReported octets writer writer' ended ⊎ IsNoPortsReported octets writer writer' ended

  -- What such a check of what was read of a file amounts to.
  abbrev pub IsPortsFileChecked : Result (List ℕ) NotRead → O → O → Result (Unit {0}) Failure → Type 0
  IsPortsFileChecked (Ok octets) writer writer' ended = IsPortsChecked octets writer writer' ended
  IsPortsFileChecked (Err (FileMemory file)) writer writer' ended =
      IsWantReported contents writer writer' ended
  IsPortsFileChecked (Err (Unreadable file reason)) writer writer' ended =
      (ended ≡ Err (CannotRead file reason)) × (writer' ≡ writer)
  IsPortsFileChecked (Err (FileTooLarge file limit)) writer writer' ended =
      (ended ≡ Err (TooLarge file limit)) × (writer' ≡ writer)

-- A reader of files, by what a read of the file of a name may give, and a writer.
module _ {O : Type 0} (Gives : List ℕ → Result (List ℕ) NotRead → Type 0)
    (contents : O → Option (List ℕ)) where
  -- a file was read, or not, and it was reported whether what was read of it is a configuration
  pub record IsCheckOf (file : List ℕ) (writer writer' : O) (ended : Result (Unit {0}) Failure)
      : Type 0 where
    pub read : Result (List ℕ) NotRead
    pub is : IsReadOf Gives limit.Configuration file read
    pub checked : IsFileChecked contents read writer writer' ended

  -- a file was read, or not, and the sockets of what was read of it were reported
  pub record IsPortsCheckOf (file : List ℕ) (writer writer' : O) (ended : Result (Unit {0}) Failure)
      : Type 0 where
    pub read : Result (List ℕ) NotRead
    pub is : IsReadOf Gives limit.Configuration file read
    pub checked : IsPortsFileChecked contents read writer writer' ended

  -- a file was read, or not, and it was reported whether what was read of it says a policy
  pub record IsPolicyCheckOf (file : List ℕ) (writer writer' : O) (ended : Result (Unit {0}) Failure)
      : Type 0 where
    pub read : Result (List ℕ) NotRead
    pub is : IsReadOf Gives limit.Policy file read
    pub checked : IsPolicyFileChecked contents read writer writer' ended
