-- The line of the control socket: which turns are its own.
use Rattle.std.specs.Prelude.{◌≡◌, ℕ, ◌+◌, List, [], ◌∷◌, ◌++◌, Option, Some, None, IsSome}
use Rattle.std.specs.declared.net.socket_addr.SocketAddr.{SocketAddr}
use Rattle.frame_core.specs.declared.bpdu.Bpdu.{Bpdu}
use Rattle.frame_core.specs.declared.mac.Mac.{Mac}
use Rattle.wire_core.specs.Acts.{Act}
use Rattle.wire_core.specs.declared.wire.WireFault.{WireFault}
use Rattle.live_sending.specs.Packets.{bpdu_packets}
use Rattle.live_sending.specs.Sending.{IsSending}
use Rattle.history_core.specs.declared.applied.Applied.{Applied}
use Rattle.history_core.specs.declared.event.Event.{Event}
use Rattle.history_core.specs.declared.event.Event.TheVariants as event
use Rattle.history_core.specs.History.{History}
use Rattle.live_lock.specs.declared.held.Counts.{Counts}
use Rattle.live_lock.specs.Counting.{IsCounted}
use Rattle.live_agent.specs.declared.trace.End.{End}
use Rattle.live_agent.specs.Turns.{Arrival, Happening}
use Rattle.live_agent.specs.Lines.{RunStart, Happens, ports_packets}
use Rattle.control_text.specs.Commands.{asked_by, counts, IsReadAs, IsRefusedAs}
use Rattle.control_text.specs.Answers.{counts_line, refusal_line}
use Rattle.control_text.specs.declared.command.Command.{Command}
use Rattle.control_text.specs.declared.command.Command.TheVariants.{Link, Policy, Counts as CountsCommand}
use Rattle.control_text.specs.declared.command.CommandFault.{CommandFault}
use Rattle.control_text.specs.declared.command.TheConstants.{MAX_COMMAND}
use Rattle.live_control.specs.declared.item.ControlItem.{ControlItem}
use Rattle.live_control.specs.declared.tally.DropCounts.{DropCounts}
use Rattle.live_control.specs.Answers.{first_line, answer_by}
use Rattle.live_control.specs.Deeds.{Deed, all_acted}
use Rattle.live_control.specs.Turns.{Reply, Turn, nothing_came, ended, broke, was_refused, was_reported, was_done, deeds_of, reply_deeds, end_after}
use Rattle.live_control.specs.Runs.{HasRun}

-- The line lends a slice of one octet more than a command has at most.
abbrev pub command_space : ℕ
command_space = MAX_COMMAND + 1

-- the event that a command has happen, if it has one
abbrev pub event_of : Command → Option Event
event_of (Link port up) = Some (event.Link port up)
event_of (Policy tables) = Some (event.Policy tables)
event_of CountsCommand = None

-- A refused command was answered why.
pub record IsRefusal (ports : ℕ) (a : Arrival) (refusal : CommandFault) (reply : Reply) : Type 0 where
  pub reads : IsRefusedAs (asked_by ports a.octets) refusal
  pub says : reply.text ≡ refusal_line refusal
  pub stated : IsSome reply.how

-- the datagrams that each cause dropped, and the requests that an unknown community or context dropped
abbrev pub counts_of : DropCounts → Counts → List ℕ
counts_of dropped world =
    dropped.too_long ∷ dropped.malformed ∷ dropped.bad_version ∷ dropped.bad_kind ∷ dropped.memory
    ∷ world.bad_communities ∷ world.unknown_contexts ∷ []

-- The counts were answered: those of the datagrams, as the tally has them, and those of the requests, as
-- the history's world counted them behind so many entries of the line's thread.
pub record IsReported (Reports : DropCounts → Type 0) (start : History) (ports : ℕ) (a : Arrival) (made : ℕ)
    (reply : Reply) : Type 0 where
  pub reads : asked_by ports a.octets ≡ counts
  pub dropped : DropCounts
  pub tallied : Reports dropped
  pub world : Counts
  pub counted : IsCounted start made world
  pub says : reply.text ≡ counts_line (counts_of dropped world)

-- The event of a command happened: what the ports send went to their peers, and then what became of it
-- was answered.
pub record IsDone (s : RunStart) (ports : ℕ) (a : Arrival) (h : Happening) (reply : Reply) : Type 0 where
  pub command : Command
  pub reads : IsReadAs (asked_by ports a.octets) command
  pub event : Event
  pub is : event_of command ≡ Some event
  pub happens : Happens s event (ports_packets s h) h
  pub says : reply.text ≡ answer_by s.source (first_line event) h.applied h.buffer.bpdus

-- What was done behind an event: the BPDUs of the ports were sent until one could not be, and then what
-- became of the event was answered; and so that ended the line, if it did.
pub record HasFinished {W : Type 0} (did : W → List Deed → W → Type 0) (source : Mac)
    (peers : List SocketAddr) (peer : SocketAddr) (first : List ℕ) (applied : Applied)
    (bpdus : List (Option Bpdu)) (a b : W) (ends : Option End) : Type 0 where
  pub acts : List Act
  pub fault : Option WireFault
  pub sent : IsSending (bpdu_packets source peers bpdus) fault acts
  pub reply : Reply
  pub says : reply.text ≡ answer_by source first applied bpdus
  pub went : did a (all_acted acts ++ reply_deeds peer reply) b
  pub ends_so : ends ≡ end_after applied fault reply.how

-- A turn of the line, where there are so many ports and the tally reports this.
abbrev pub IsControlTurn : (DropCounts → Type 0) → RunStart → ℕ → Turn → Type 0
IsControlTurn Reports s ports nothing_came = Unit
IsControlTurn Reports s ports ended = Unit
IsControlTurn Reports s ports (broke fault) = Unit
IsControlTurn Reports s ports (was_refused a refusal reply) =
    (a.space ≡ command_space) × IsRefusal ports a refusal reply
IsControlTurn Reports s ports (was_reported a made reply) =
    (a.space ≡ command_space) × IsReported Reports s.start ports a made reply
IsControlTurn Reports s ports (was_done a h reply) =
    (a.space ≡ command_space) × IsDone s ports a h reply

-- Between two states of its wires, and of what records its items, the line has run so many rounds: one
-- item for each command, in order: refused for its cause, the counts asked for, entered with exactly its
-- event, or not entered, for want of memory or of a number. Each but the last was answered: for the last
-- there may have been no memory for an answer, or its answer may not have been sent.
abbrev pub HasControlled : {W K : Type 0} → (W → List Deed → W → Type 0)
    → (K → List ControlItem → K → Type 0) → (DropCounts → Type 0) → RunStart → ℕ → ℕ → W → W → K → K → ℕ → ℕ → End → Type 0
HasControlled did kept Reports s ports rounds a b k l amount later_amount how =
    HasRun did kept deeds_of (IsControlTurn Reports s ports) rounds a b k l amount later_amount how
