-- What the octets of a configuration give to be served.
use Rattle.std.specs.Prelude.{◌≡◌, ◌⊎◌, ℕ, List, Option, Some, IfSome, Result, Ok, Err}
use Rattle.policy_text.specs.Texts.{HasContent}
use Rattle.configuration.specs.declared.configuration.Configuration.{Configuration}
use Rattle.configuration.specs.Configurations.{IsConfigurationIn, IsFaultIn}
use Rattle.configuration.specs.Warnings.{warnings_of}
use Rattle.setphase_core.specs.Objects.{ObjectState}
use Rattle.udp_agent.specs.Setups.{IsSetup, IsUnserved}
use Rattle.udp_agent.specs.declared.setup.Unserved.{Unserved as UnservedCause}
use Rattle.agent_program.specs.declared.files.FileLimit.TheVariants as limit
use Rattle.agent_program.specs.declared.files.NotRead.{NotRead}
use Rattle.agent_program.specs.declared.failure.Failure.{Failure}
use Rattle.agent_program.specs.declared.opening.NotRun.{NotRun}
use Rattle.agent_program.specs.declared.opening.NotRun.TheVariants.{Refused, Unserved, Memory, NoRegistry, Stopped}
use Rattle.agent_program.specs.declared.serving.Opened.{Opened}
use Rattle.agent_words.specs.declared.asked.Lasting.{Lasting}
use Rattle.agent_program.specs.Agents.{world_of, MakeRegistry}
use Rattle.agent_program.specs.Files.{IsReadOf}
use Rattle.agent_program.specs.Endings.{read_failure}
use Rattle.agent_program.specs.Refusals.{FailsBy}

-- The octets say a configuration; this is the world that it opens, the setup that it says, and what is
-- warned of in it, unless there was no memory for that.
pub record IsOpened (octets : List ℕ) (opened : Opened) : Type 0 where
  pub configuration : Configuration
  pub stated : IsConfigurationIn octets configuration
  pub world_is : opened.world ≡ world_of configuration
  pub setup_is : IsSetup configuration.address configuration.ports.items configuration.serve
      opened.setup
  pub warned : IfSome opened.warnings (λ warnings. warnings.items ≡ warnings_of configuration)

-- The octets say a configuration by which nothing can be served, for this reason: it does not say how,
-- or of a port not where its frames come in and go out.
pub record HasNoSetup (octets : List ℕ) (why : UnservedCause) : Type 0 where
  pub configuration : Configuration
  pub stated : IsConfigurationIn octets configuration
  pub unserved : IsUnserved configuration.ports.items configuration.serve (Some why)

-- Nothing was opened for this reason.
abbrev pub IsNotSetUp : List ℕ → NotRun → Type 0
IsNotSetUp octets (Refused fault) = IsFaultIn octets fault
IsNotSetUp octets (Unserved why) = HasNoSetup octets why
IsNotSetUp octets Memory = HasContent octets
IsNotSetUp octets NoRegistry = ⊥
IsNotSetUp octets (Stopped fault) = ⊥

-- a registry of objects, what they are to show while it is served, and for how long
abbrev pub Service : Type 0
Service = List ObjectState × Opened × Lasting

-- What objects and octets give to be served: exactly these objects, which make a registry, and what
-- the octets open; or why there is nothing.
abbrev pub IsServiceBy : List ObjectState → List ℕ → Result (List ObjectState × Opened) NotRun → Type 0
IsServiceBy objects octets (Ok service) =
    (service.0 ≡ objects) × MakeRegistry objects × IsOpened octets service.1
IsServiceBy objects octets (Err (Refused fault)) = IsNotSetUp octets (Refused fault)
IsServiceBy objects octets (Err (Unserved why)) = IsNotSetUp octets (Unserved why)
IsServiceBy objects octets (Err Memory) = IsNotSetUp octets Memory
IsServiceBy objects octets (Err NoRegistry) = MakeRegistry objects → ⊥
IsServiceBy objects octets (Err (Stopped fault)) = ⊥

-- the same of the octets of a file, for so long, as an answer of the program
abbrev pub IsLeftBy : Lasting → List ℕ → List ℕ → Result (List ObjectState × Opened) NotRun
    → Result (Option Service) Failure → Type 0
IsLeftBy lasting file octets (Ok service) done =
    done ≡ Ok (Some (service.0, service.1, lasting))
IsLeftBy lasting file octets (Err why) done = FailsBy (Some file) octets why done

-- There is this to be served by these octets of a file, for so long.
pub record Opens (objects : List ObjectState) (lasting : Lasting) (file octets : List ℕ)
    (done : Result (Option Service) Failure) : Type 0 where
  pub result : Result (List ObjectState × Opened) NotRun
  pub service : IsServiceBy objects octets result
  pub is : IsLeftBy lasting file octets result done

-- The same by what was read of a file: by its octets, and by nothing else where they were not had.
abbrev pub OpensRead : List ObjectState → Lasting → List ℕ → Result (List ℕ) NotRead
    → Result (Option Service) Failure → Type 0
OpensRead objects lasting file (Ok octets) done = Opens objects lasting file octets done
OpensRead objects lasting file (Err why) done = done ≡ Err (read_failure why)

-- A file was read, or not, and this is to be served by what was read of it: a reader of files, by
-- what a read of the file of a name may give.
pub record OpensFile (Gives : List ℕ → Result (List ℕ) NotRead → Type 0)
    (objects : List ObjectState) (lasting : Lasting) (file : List ℕ)
    (done : Result (Option Service) Failure) : Type 0 where
  pub read : Result (List ℕ) NotRead
  pub is : IsReadOf Gives limit.Configuration file read
  pub opens : OpensRead objects lasting file read done
