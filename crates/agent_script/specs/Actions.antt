-- What a line makes the agent do, what is written for it, and what it changes.
use Rattle.std.specs.Prelude.{ℕ, Bool, codes, decimal, if◌then◌else◌, List, [], ◌∷◌, ◌++◌, Option, Some, None, Result, Ok, Err}
use Rattle.std.specs.List.{flat_map}
use Rattle.std.specs.Str.{bytes_eq}
use Rattle.message_core.specs.FirstFault.{request_at}
use Rattle.message_core.specs.declared.cause.DropCause.{DropCause}
use Rattle.message_core.specs.declared.cause.DropCause.TheVariants.{TooLong, Malformed, BadVersion, BadKind, Memory}
use Rattle.message_core.specs.declared.request.Request.{Request}
use Rattle.frame_core.specs.declared.frame.FrameIn.{FrameIn}
use Rattle.frame_core.specs.declared.fault.FrameFault.{FrameFault}
use Rattle.frame_core.specs.declared.fault.FrameFault.TheVariants.{Short, TooLong as FrameTooLong, BadBpdu}
use Rattle.frame_core.specs.Reading.{frame_at}
use Rattle.bridge_core.specs.Bridge.{port_count}
use Rattle.community_core.specs.Communities.{PolicyTables}
use Rattle.policy_text.specs.Texts.{policy_in}
use Rattle.setphase_core.specs.declared.world.World.{World}
use Rattle.agent_core.specs.Answers.{one_more}
use Rattle.history_core.specs.History.{history_after_arm}
use Rattle.history_core.specs.declared.event.Event.{Event}
use Rattle.history_core.specs.declared.event.Event.TheVariants as event
use Rattle.agent_script.specs.Commands.{Command, request, frame, tick, link, policy, audit, counts, driver, command_of}
use Rattle.agent_script.specs.Events.{Happening, each_met, after_events}
use Rattle.agent_script.specs.Outputs.{drop_text, events_text}
use Rattle.agent_script.specs.State.{Agent}
use Rattle.agent_script.specs.declared.drops.Drops.{Drops}
use Rattle.agent_script.specs.Notes.{Note, is_unread, mets_of}

pub data Action : Type 0 where
  -- none: the line is no command
  bad_line : Action
  -- events happen, one after another
  happen : (happenings : List Happening) → Action
  -- a datagram gives no request
  drop : (cause : DropCause) → Action
  -- octets are no frame, and no event
  refuse_frame : (fault : FrameFault) → Action
  -- a policy has these lines so far
  keep : (lines : List ℕ) → Action
  -- a policy has ended: it comes into force, where these events happen, or is refused
  accept : (happenings : List Happening) → Action
  refuse : Action
  -- each request's audit is written from here on, or not
  switch : (on : Bool) → Action
  -- what was dropped is written
  show_counts : Action
  -- the objects' devices are to fail by this plan
  arm : (plan : ℕ) → Action

-- ---- which action

-- an event happens, each time as it is noted
abbrev pub happenings_of : Event → Note → List Happening
happenings_of e note = each_met e (mets_of note)

abbrev pub reading_action : Result Request DropCause → Note → Action
reading_action (Ok r) note = happen (happenings_of (event.Request r) note)
reading_action (Err cause) note = drop cause

-- a datagram
abbrev pub datagram_action : List ℕ → Note → Action
datagram_action datagram note =
    if is_unread note then drop Memory else reading_action (request_at datagram) note

-- a frame, or octets that are none, at a port
abbrev pub frame_action : ℕ → Result FrameIn FrameFault → Note → Action
frame_action port (Ok fields) note = happen (happenings_of (event.Frame port fields) note)
frame_action port (Err fault) note = refuse_frame fault

-- a command, or a line that is none
abbrev pub command_action : Option Command → Note → Action
command_action None note = bad_line
command_action (Some (request datagram)) note = datagram_action datagram note
command_action (Some (frame port octets)) note = frame_action port (frame_at octets) note
command_action (Some (tick seconds)) note = happen (happenings_of event.Tick note)
command_action (Some (link port up)) note = happen (happenings_of (event.Link port up) note)
command_action (Some policy) note = keep []
command_action (Some (audit on)) note = switch on
command_action (Some counts) note = show_counts
command_action (Some (driver plan)) note = arm plan

abbrev pub ending : Option PolicyTables → Note → Action
ending (Some tables) note = accept (happenings_of (event.Policy tables) note)
ending None note = refuse

-- the end of a policy of these lines
abbrev pub end_action : List ℕ → Note → Action
end_action lines note = if is_unread note then refuse else ending (policy_in lines) note

-- a line of a policy behind these lines, or its end
abbrev pub policy_action : List ℕ → List ℕ → Note → Action
policy_action lines line note =
    if bytes_eq line (codes "end") then end_action lines note
    else keep (lines ++ line ++ codes "\n")

abbrev pub action_in : Agent → Option (List ℕ) → List ℕ → Note → Action
action_in agent (Some lines) line note = policy_action lines line note
action_in agent None line note =
    command_action (command_of (port_count agent.history.world.bridge) line) note

-- A line, inside a policy or outside, where this is noted of it.
unfoldable pub action_of : Agent → List ℕ → Note → Action
action_of agent line note = action_in agent agent.policy_lines line note

-- ---- what is written

-- the name of a cause
abbrev pub cause_name : DropCause → List ℕ
cause_name TooLong = codes "TooLong"
cause_name Malformed = codes "Malformed"
cause_name BadVersion = codes "BadVersion"
cause_name BadKind = codes "BadKind"
cause_name Memory = codes "Memory"

-- the name of a fault
abbrev pub fault_name : FrameFault → List ℕ
fault_name Short = codes "Short"
fault_name FrameTooLong = codes "TooLong"
fault_name BadBpdu = codes "BadBpdu"

-- a space and a number
abbrev pub space_and_number : ℕ → List ℕ
space_and_number n = codes " " ++ decimal n

-- the datagrams that each cause dropped, and the requests that an unknown community or context
-- dropped
abbrev pub counts_of : Drops → World → List ℕ
counts_of drops world =
    drops.too_long ∷ drops.malformed ∷ drops.bad_version ∷ drops.bad_kind ∷ drops.memory
    ∷ world.bad_communities ∷ world.unknown_contexts ∷ []

abbrev pub counts_text : Drops → World → List ℕ
counts_text drops world =
    codes "counts" ++ flat_map space_and_number (counts_of drops world) ++ codes "\n"

abbrev pub action_text : Agent → Action → List ℕ
action_text agent bad_line = codes "badline\n"
action_text agent (happen happenings) =
    events_text agent.is_auditing agent.history happenings
action_text agent (drop cause) = drop_text (cause_name cause)
action_text agent (refuse_frame fault) = codes "badframe " ++ fault_name fault ++ codes "\n"
action_text agent (keep lines) = []
action_text agent (accept happenings) =
    events_text agent.is_auditing agent.history happenings
action_text agent refuse = codes "policy refused\n"
action_text agent (switch on) = []
action_text agent show_counts = counts_text agent.drops agent.history.world
action_text agent (arm plan) = []

-- ---- what it changes

-- one more datagram that this cause drops
abbrev pub dropped_more : Drops → DropCause → Drops
dropped_more drops TooLong = record drops { too_long = one_more drops.too_long }
dropped_more drops Malformed = record drops { malformed = one_more drops.malformed }
dropped_more drops BadVersion = record drops { bad_version = one_more drops.bad_version }
dropped_more drops BadKind = record drops { bad_kind = one_more drops.bad_kind }
dropped_more drops Memory = record drops { memory = one_more drops.memory }

abbrev pub after_action : Agent → Action → Agent
after_action agent bad_line = agent
after_action agent (happen happenings) =
    record agent { history = after_events agent.history happenings }
after_action agent (drop cause) = record agent { drops = dropped_more agent.drops cause }
after_action agent (refuse_frame fault) = agent
after_action agent (keep lines) = record agent { policy_lines = Some lines }
after_action agent (accept happenings) =
    record agent { history = after_events agent.history happenings; policy_lines = None }
after_action agent refuse = record agent { policy_lines = None }
after_action agent (switch on) = record agent { is_auditing = on }
after_action agent show_counts = agent
after_action agent (arm plan) =
    record agent { history = history_after_arm plan agent.history }
