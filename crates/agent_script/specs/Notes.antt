-- What each line of a script may meet, and when it may be given up.
use Rattle.std.specs.Prelude.{◌≡◌, ◌<◌, ◌+◌, ℕ, Bool, true, false, codes, length, List, [], Option, Some, None, Result, Ok, Err}
use Rattle.std.specs.List.{list_all}
use Rattle.std.specs.Str.{bytes_eq}
use Rattle.message_core.specs.Message.{IsCause}
use Rattle.message_core.specs.FirstFault.{request_at}
use Rattle.message_core.specs.declared.cause.DropCause.{DropCause}
use Rattle.message_core.specs.declared.cause.DropCause.TheVariants.{TooLong, Malformed, BadVersion, BadKind, Memory}
use Rattle.message_core.specs.declared.request.Request.{Request}
use Rattle.frame_core.specs.declared.frame.FrameIn.{FrameIn}
use Rattle.frame_core.specs.declared.fault.FrameFault.{FrameFault}
use Rattle.frame_core.specs.Reading.{frame_at}
use Rattle.community_core.specs.Communities.{PolicyTables}
use Rattle.policy_text.specs.Texts.{HasContent, policy_in}
use Rattle.bridge_core.specs.Bridge.{port_count}
use Rattle.script_core.specs.declared.fault.LineFault.{LineFault}
use Rattle.script_core.specs.declared.fault.LineFault.TheVariants.{Memory as NoMemory, Stopped}
use Rattle.history_core.specs.History.{History, next_of, last_number}
use Rattle.history_core.specs.declared.event.Event.{Event}
use Rattle.history_core.specs.declared.event.Event.TheVariants as event
use Rattle.agent_script.specs.Commands.{Command, request, frame, tick, link, policy, audit, counts, driver, command_of}
use Rattle.agent_script.specs.Events.{Met, is_full, each_met, AreMet}
use Rattle.agent_script.specs.State.{Agent}

-- what a line met
pub data Note : Type 0 where
  -- no want of memory; and nothing happens by it
  nothing : Note
  -- want of memory for what it writes, a request or a policy: nothing happens by it
  unread : Note
  -- its event happens once for each of these
  happens : (mets : List Met) → Note

-- there was no memory for what the line writes
abbrev pub is_unread : Note → Bool
is_unread nothing = false
is_unread unread = true
is_unread (happens mets) = false

-- what its event met, each time
abbrev pub mets_of : Note → List Met
mets_of nothing = []
mets_of unread = []
mets_of (happens mets) = mets

-- nothing was given up for want of memory
abbrev pub is_whole : Note → Bool
is_whole nothing = true
is_whole unread = false
is_whole (happens mets) = list_all is_full mets

-- no memory is why a datagram gives no request
abbrev pub lacks_memory : DropCause → Bool
lacks_memory TooLong = false
lacks_memory Malformed = false
lacks_memory BadVersion = false
lacks_memory BadKind = false
lacks_memory Memory = true

-- the first where a test holds, and the second where it does not
abbrev pub Case : Bool → Type 0 → Type 0 → Type 0
Case true A B = A
Case false A B = B

-- An event happens so many times, one after another.
pub record MayHappen (h : History) (e : Event) (times : ℕ) (note : Note) : Type 0 where
  pub mets : List Met
  pub note_is : note ≡ happens mets
  pub count : length mets ≡ times
  pub may : AreMet h (each_met e mets)

abbrev pub MayMeetReading : History → Result Request DropCause → Note → Type 0
MayMeetReading h (Ok r) note = MayHappen h (event.Request r) 1 note
MayMeetReading h (Err cause) note = note ≡ nothing

-- A datagram: its request may find no memory, where reading it takes some.
abbrev pub MayMeetDatagram : History → List ℕ → Note → Type 0
MayMeetDatagram h datagram note =
    Case (is_unread note) (IsCause datagram Memory) (MayMeetReading h (request_at datagram) note)

-- the octets of a frame at a port
abbrev pub MayMeetFrame : History → ℕ → Result FrameIn FrameFault → Note → Type 0
MayMeetFrame h port (Ok fields) note = MayHappen h (event.Frame port fields) 1 note
MayMeetFrame h port (Err fault) note = note ≡ nothing

-- a command, or a line that is none
abbrev pub MayMeetCommand : History → Option Command → Note → Type 0
MayMeetCommand h None note = note ≡ nothing
MayMeetCommand h (Some (request datagram)) note = MayMeetDatagram h datagram note
MayMeetCommand h (Some (frame port octets)) note = MayMeetFrame h port (frame_at octets) note
MayMeetCommand h (Some (tick seconds)) note = MayHappen h event.Tick seconds note
MayMeetCommand h (Some (link port up)) note = MayHappen h (event.Link port up) 1 note
MayMeetCommand h (Some policy) note = note ≡ nothing
MayMeetCommand h (Some (audit on)) note = note ≡ nothing
MayMeetCommand h (Some counts) note = note ≡ nothing
MayMeetCommand h (Some (driver plan)) note = note ≡ nothing

abbrev pub MayMeetTables : History → Option PolicyTables → Note → Type 0
MayMeetTables h (Some tables) note = MayHappen h (event.Policy tables) 1 note
MayMeetTables h None note = note ≡ nothing

-- The end of a policy of these lines: the policy may find no memory, where they are a text that is
-- not blank.
abbrev pub MayMeetEnd : History → List ℕ → Note → Type 0
MayMeetEnd h lines note =
    Case (is_unread note) (HasContent lines) (MayMeetTables h (policy_in lines) note)

-- a line of a policy behind these lines, or its end
abbrev pub MayMeetPolicyLine : History → List ℕ → List ℕ → Note → Type 0
MayMeetPolicyLine h lines line note =
    Case (bytes_eq line (codes "end")) (MayMeetEnd h lines note) (note ≡ nothing)

abbrev pub MayMeetIn : Agent → Option (List ℕ) → List ℕ → Note → Type 0
MayMeetIn agent (Some lines) line note = MayMeetPolicyLine agent.history lines line note
MayMeetIn agent None line note =
    MayMeetCommand agent.history (command_of (port_count agent.history.world.bridge) line) note

-- A line may meet this.
unfoldable pub MayMeet : Agent → List ℕ → Note → Type 0
MayMeet agent line note = MayMeetIn agent agent.policy_lines line note

-- ---- given up

-- A command, or a line that is none, may be given up for want of memory: one that is read from
-- hexadecimal, or for which something may be written. The other commands take none.
abbrev pub MayLackMemory : Option Command → Type 0
MayLackMemory None = Unit {0}
MayLackMemory (Some (request datagram)) = Unit {0}
MayLackMemory (Some (frame port octets)) = Unit {0}
MayLackMemory (Some (tick seconds)) = Unit {0}
MayLackMemory (Some (link port up)) = Unit {0}
MayLackMemory (Some policy) = ⊥
MayLackMemory (Some (audit on)) = ⊥
MayLackMemory (Some counts) = Unit {0}
MayLackMemory (Some (driver plan)) = ⊥

-- how often an event happens by a command, at most
abbrev pub event_count : Option Command → ℕ
event_count None = 0
event_count (Some (request datagram)) = 1
event_count (Some (frame port octets)) = 1
event_count (Some (tick seconds)) = seconds
event_count (Some (link port up)) = 1
event_count (Some policy) = 0
event_count (Some (audit on)) = 0
event_count (Some counts) = 0
event_count (Some (driver plan)) = 0

-- so many entries more have no numbers
abbrev pub IsOut : History → ℕ → Type 0
IsOut h count = last_number < next_of h + count

-- A command is given up for want of memory, or since no number is left for an entry.
abbrev pub MayGiveUpCommand : History → Option Command → LineFault → Type 0
MayGiveUpCommand h command NoMemory = MayLackMemory command
MayGiveUpCommand h command Stopped = IsOut h (event_count command)

-- any line of a policy may find no memory, since the policy is kept; by its end one event happens
abbrev pub MayGiveUpPolicyLine : History → LineFault → Type 0
MayGiveUpPolicyLine h NoMemory = Unit {0}
MayGiveUpPolicyLine h Stopped = IsOut h 1

abbrev pub MayGiveUpIn : Agent → Option (List ℕ) → List ℕ → LineFault → Type 0
MayGiveUpIn agent (Some lines) line fault = MayGiveUpPolicyLine agent.history fault
MayGiveUpIn agent None line fault =
    MayGiveUpCommand agent.history (command_of (port_count agent.history.world.bridge) line) fault

-- A line that was read may be given up for this.
unfoldable pub MayGiveUp : Agent → List ℕ → LineFault → Type 0
MayGiveUp agent line fault = MayGiveUpIn agent agent.policy_lines line fault
