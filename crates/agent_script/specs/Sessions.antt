-- The agent as it answers lines.
use Rattle.std.specs.Prelude.{◌≡◌, ℕ, Bool, ◌&&◌, List, length, IsSome}
use Rattle.std.specs.List.{list_all}
use Rattle.script_core.specs.declared.fault.LineFault.{LineFault}
use Rattle.script_core.specs.declared.fault.LineFault.TheVariants.{Memory as NoMemory}
use Rattle.history_core.specs.declared.event.Event.{Event}
use Rattle.agent_script.specs.Actions.{Action, action_of, action_text, after_action}
use Rattle.agent_script.specs.Events.{Met, is_full, each_met, AreMet, after_events}
use Rattle.agent_script.specs.Notes.{Note, MayMeet, MayGiveUp, is_whole}
use Rattle.agent_script.specs.Outputs.{events_text}
use Rattle.agent_script.specs.Script.{end_text, after_end}
use Rattle.agent_script.specs.State.{Agent}

-- An agent answers: there is a note of this kind, and what is written, the agent after it and whether
-- nothing was given up for want of memory are those of that note.
pub record Says (may : Note → Type 0) (action : Note → Action) (before : Agent) (stated : List ℕ)
    (now : Agent) (whole : Bool) : Type 0 where
  pub note : Note
  pub met : may note
  pub text : stated ≡ action_text before (action note)
  pub after : now ≡ after_action before (action note)
  pub whole_is : whole ≡ is_whole note

-- to a line
abbrev pub SaysOfLine : Agent → List ℕ → List ℕ → Agent → Bool → Type 0
SaysOfLine before line = Says (MayMeet before line) (action_of before line) before

-- an event happens so many times, one after another
pub record SaysOfEvents (event : Event) (times : ℕ) (before : Agent) (stated : List ℕ) (now : Agent)
    (whole : Bool) : Type 0 where
  pub mets : List Met
  pub count : length mets ≡ times
  pub may : AreMet before.history (each_met event mets)
  pub text : stated ≡ events_text before.is_auditing before.history (each_met event mets)
  pub after : now ≡ record before { history = after_events before.history (each_met event mets) }
  pub whole_is : whole ≡ list_all is_full mets

-- an agent, and whether no line so far met want of memory
pub record Session : Type 0 where
  pub agent : Agent
  pub is_whole : Bool

-- To a line.
pub record SaysToLine (before : Session) (line stated : List ℕ) (now : Session) : Type 0 where
  pub whole : Bool
  pub says : SaysOfLine before.agent line stated now.agent whole
  pub is_whole : now.is_whole ≡ (before.is_whole && whole)

-- at the end
pub record SaysAtEnd (before : Session) (stated : List ℕ) (now : Session) : Type 0 where
  pub text : stated ≡ end_text before.agent
  pub agent : now.agent ≡ after_end before.agent
  pub whole : now.is_whole ≡ before.is_whole

-- a line is given up where it may be
abbrev pub GivesUpLine : Session → List ℕ → LineFault → Type 0
GivesUpLine before line fault = MayGiveUp before.agent line fault

-- the end is given up for want of memory alone, and where a policy is open
pub record GivesUpEnd (before : Session) (fault : LineFault) : Type 0 where
  pub memory : fault ≡ NoMemory
  pub is_open : IsSome before.agent.policy_lines
