-- What a script's agent is.
use Rattle.std.specs.Prelude.{ℕ, Bool, false, List, Option, None}
use Rattle.setphase_core.specs.Objects.{ObjectState}
use Rattle.setphase_core.specs.declared.world.World.{World}
use Rattle.history_core.specs.History.{History, fresh}
use Rattle.agent_script.specs.declared.drops.Drops.{Drops}

pub record Agent : Type 0 where
  -- what happened so far, and the world and the objects as they are
  pub history : History
  -- each request's audit is written
  pub is_auditing : Bool
  -- the datagrams that gave no request
  pub drops : Drops
  -- the lines so far of a policy that has not ended
  pub policy_lines : Option (List ℕ)

-- the agent of a history at the start of a script
abbrev pub agent_over : History → Agent
agent_over history = record {
  history = history;
  is_auditing = false;
  drops = record { too_long = 0; malformed = 0; bad_version = 0; bad_kind = 0; memory = 0 };
  policy_lines = None;
}

-- the agent at the start of a script: nothing has happened to its objects and its world
abbrev pub opening_agent : List ObjectState → World → Agent
opening_agent objects world = agent_over (fresh objects world 0)
