-- What a run by the octets of a configuration promises.
use Rattle.std.specs.Prelude.{◌≡◌, ℕ, List, Option, Result, Ok, Err}
use Rattle.script_core.specs.declared.fault.RunFault.{RunFault}
use Rattle.policy_text.specs.Texts.{HasContent}
use Rattle.agent_script.specs.Runs.{IsScriptRun}
use Rattle.setphase_core.specs.Objects.{ObjectState}
use Rattle.setphase_core.specs.declared.world.World.{World}
use Rattle.agent_script.specs.State.{Agent, opening_agent}
use Rattle.agent_script.specs.declared.session.ScriptEnd.{ScriptEnd}
use Rattle.agent_program.specs.declared.opening.NotRun.{NotRun}
use Rattle.agent_program.specs.declared.opening.NotRun.TheVariants.{Refused, Unserved, Memory, NoRegistry, Stopped}
use Rattle.configuration.specs.Configurations.{IsFaultIn}
use Rattle.agent_program.specs.Agents.{IsWorldOf, MakeRegistry}

-- Octets were not opened for this reason: what is refused has this first fault, and only a text that
-- is not blank takes memory.
abbrev pub IsNotOpened : List ℕ → NotRun → Type 0
IsNotOpened octets (Refused fault) = IsFaultIn octets fault
IsNotOpened octets (Unserved why) = ⊥
IsNotOpened octets Memory = HasContent octets
IsNotOpened octets NoRegistry = ⊥
IsNotOpened octets (Stopped fault) = ⊥

-- A reader that may report which octets it has left, and a writer that may report which it took.
module _ {I O : Type 0} (remaining : I → Option (List ℕ)) (contents : O → Option (List ℕ)) where
  -- Nothing was read and nothing written.
  pub record IsUntouched (reader reader' : I) (writer writer' : O) : Type 0 where
    pub unread : reader' ≡ reader
    pub unwritten : writer' ≡ writer

  -- What came of a script over this agent.
  abbrev pub IsRunOver : Agent → I → I → O → O → Result ScriptEnd NotRun → Type 0
  IsRunOver agent reader reader' writer writer' (Ok run) =
      IsScriptRun remaining contents agent reader reader' writer writer' (Ok run)
  IsRunOver agent reader reader' writer writer' (Err (Stopped fault)) =
      IsScriptRun remaining contents agent reader reader' writer writer' (Err fault)
  IsRunOver agent reader reader' writer writer' (Err (Refused fault)) = ⊥
  IsRunOver agent reader reader' writer writer' (Err (Unserved why)) = ⊥
  IsRunOver agent reader reader' writer writer' (Err Memory) = ⊥
  IsRunOver agent reader reader' writer writer' (Err NoRegistry) = ⊥

  -- These octets say a configuration, these objects make a registry, and a script was run over
  -- what they show of the world that the configuration opens.
  pub record HasRun (objects : List ObjectState) (octets : List ℕ) (reader reader' : I)
      (writer writer' : O) (went : Result ScriptEnd RunFault) : Type 0 where
    pub world : World
    pub is : IsWorldOf octets world
    pub makes : MakeRegistry objects
    pub run : IsScriptRun remaining contents (opening_agent objects world) reader reader' writer writer' went

  -- What came of objects and octets: a run; a refusal of what has this first fault, or of objects
  -- that make no registry; or, of a text that is not blank, want of memory before anything was
  -- read.
  abbrev pub IsRunBy : List ObjectState → List ℕ → I → I → O → O → Result ScriptEnd NotRun → Type 0
  IsRunBy objects octets reader reader' writer writer' (Ok run) =
      HasRun objects octets reader reader' writer writer' (Ok run)
  IsRunBy objects octets reader reader' writer writer' (Err (Stopped fault)) =
      HasRun objects octets reader reader' writer writer' (Err fault)
  IsRunBy objects octets reader reader' writer writer' (Err (Refused fault)) =
      IsFaultIn octets fault × IsUntouched reader reader' writer writer'
  IsRunBy objects octets reader reader' writer writer' (Err (Unserved why)) = ⊥
  IsRunBy objects octets reader reader' writer writer' (Err Memory) =
      HasContent octets × IsUntouched reader reader' writer writer'
  IsRunBy objects octets reader reader' writer writer' (Err NoRegistry) =
      (MakeRegistry objects → ⊥) × IsUntouched reader reader' writer writer'
