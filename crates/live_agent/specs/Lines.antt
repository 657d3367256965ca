-- The kinds of lines, by their turns: a worker answers requests, a port takes frames, and the ticker
-- lets seconds pass.
use Rattle.std.specs.Prelude.{◌≡◌, ◌⊎◌, ℕ, ℤ, pos, ◌+◌, ◌≤◌, true, false, List, [], ◌∷◌, ◌++◌, Option, Some, None}
use Rattle.audit_core.specs.declared.audit.Audit.{Audit}
use Rattle.std.specs.declared.net.socket_addr.SocketAddr.{SocketAddr}
use Rattle.frame_core.specs.Frames.{IsFrame, IsFault}
use Rattle.frame_core.specs.declared.frame.FrameIn.{FrameIn}
use Rattle.frame_core.specs.declared.frame.TheConstants.{MAX_FRAME_LEN}
use Rattle.frame_core.specs.declared.mac.Mac.{Mac}
use Rattle.message_core.specs.Message.{IsRequest, IsCause}
use Rattle.message_core.specs.declared.limits.TheConstants.{MAX_REQUEST}
use Rattle.message_core.specs.declared.request.Request.{Request}
use Rattle.wire_core.specs.Acts.{Act}
use Rattle.wire_core.specs.declared.wire.Packet.{Packet}
use Rattle.wire_core.specs.declared.wire.WireFault.{WireFault}
use Rattle.history_core.specs.History.{History}
use Rattle.history_core.specs.declared.applied.Applied.{Applied}
use Rattle.history_core.specs.declared.applied.Applied.TheVariants.{Done, Dropped, Short, HistoryFull}
use Rattle.history_core.specs.declared.event.Event.{Event}
use Rattle.history_core.specs.declared.event.Event.TheVariants as event
use Rattle.history_core.specs.declared.receipt.Receipt.{Receipt}
use Rattle.live_lock.specs.Sharing.{TakesPlace, IsReportedOf, entry_count}
use Rattle.live_agent.specs.declared.gate.AnsweredRequest.{AnsweredRequest}
use Rattle.live_agent.specs.declared.plan.Plan.{Plan}
use Rattle.live_sending.specs.Packets.{reply_packets, frame_packets, bpdu_packets}
use Rattle.live_sending.specs.Sending.{IsSending}
use Rattle.live_agent.specs.Deeds.{Deed, acted, visited, answered, before, after, all_acted}
use Rattle.live_agent.specs.Turns.{Arrival, Happening, Turn, nothing_came, ended, broke, was_refused, was_taken, was_own, paused, arrival_act, acts_of, item_of}
use Rattle.live_agent.specs.Runs.{HasRun}
use Rattle.live_agent.specs.declared.trace.End.{End}
use Rattle.live_agent.specs.declared.trace.End.TheVariants as end
use Rattle.live_agent.specs.declared.trace.Item.{Item}
use Rattle.live_agent.specs.declared.trace.InputFault.{InputFault}
use Rattle.live_agent.specs.declared.trace.InputFault.TheVariants as refusal

-- Where a run starts, and where what its ports send goes: the bridge's address, and the ports' peers.
pub record RunStart : Type 0 where
  pub start : History
  pub source : Mac
  pub peers : List SocketAddr

-- the setting of the lines of a plan
abbrev pub run_start_of : History → Plan → RunStart
run_start_of start plan =
    record { start = start; source = plan.source; peers = plan.peers.items }

-- An event took its place in the history, behind at least as many entries as its thread had made,
-- and these packets were sent for it.
pub record Happens (s : RunStart) (e : Event) (packets : List Packet) (h : Happening) : Type 0 where
  pub event_is : h.event ≡ e
  pub place : TakesPlace s.start h.made e h.applied h.buffer
  pub reported : IsReportedOf e h.applied h.buffer
  pub sent : IsSending packets h.fault h.acts

-- what the ports send after an event
abbrev pub ports_packets : RunStart → Happening → List Packet
ports_packets s h = bpdu_packets s.source s.peers h.buffer.bpdus

-- ---- workers

-- A worker lends memory for one octet more than a request has at most.
abbrev pub request_space : ℕ
request_space = MAX_REQUEST + 1

-- The request of a datagram happened: the reply went to the peer that asked, and then what the ports
-- send to their peers.
pub record IsAnswered (s : RunStart) (a : Arrival) (h : Happening) : Type 0 where
  pub request : Request
  pub reads : IsRequest a.octets request
  pub happens : Happens s (event.Request request)
      (reply_packets a.peer h.buffer.reply ++ ports_packets s h) h

abbrev pub IsRefusedRequest : Arrival → InputFault → Type 0
IsRefusedRequest a (refusal.Datagram cause) = IsCause a.octets cause
IsRefusedRequest a (refusal.Frame fault) = ⊥

abbrev pub IsWorkerTurn : RunStart → Turn → Type 0
IsWorkerTurn s nothing_came = Unit
IsWorkerTurn s ended = Unit
IsWorkerTurn s (broke fault) = Unit
IsWorkerTurn s (was_refused a cause) = (a.space ≡ request_space) × IsRefusedRequest a cause
IsWorkerTurn s (was_taken a h) = (a.space ≡ request_space) × IsAnswered s a h
IsWorkerTurn s (was_own h) = ⊥
IsWorkerTurn s paused = ⊥

-- the request-id of the request that an event is
abbrev pub request_id_of : Event → ℤ
request_id_of (event.Frame port frame) = pos 0
request_id_of event.Tick = pos 0
request_id_of (event.Link port up) = pos 0
request_id_of (event.Policy tables) = pos 0
request_id_of (event.Request request) = request.id

-- A request from this peer, of this request-id, made the entry of this receipt.
abbrev pub answered_request : SocketAddr → ℤ → Receipt → AnsweredRequest
answered_request peer request_id receipt =
    record { number = receipt.number; peer = peer; request_id = request_id }

-- the receipt and the audit of the entry that a request made, if it made one: also of one that was
-- dropped
abbrev pub audited_of : Applied → Option (Receipt × Audit)
audited_of (Done receipt (Some audit)) = Some (receipt, audit)
audited_of (Done receipt None) = None
audited_of (Dropped receipt cause audit) = Some (receipt, audit)
audited_of (Short back) = None
audited_of (HistoryFull back) = None

-- Behind a request that made an entry the gate is visited, with the entry's number, who asked, the
-- request-id and the entry's audit.
abbrev pub visits_behind : ℕ → SocketAddr → ℤ → Option (Receipt × Audit) → List Deed
visits_behind worker peer request_id (Some entry) =
    visited (after worker (answered_request peer request_id entry.0) entry.1) ∷ []
visits_behind worker peer request_id None = []

-- What a turn of the worker of this number does, in order: where a request happens, the datagram
-- comes, the gate is visited by that number, what it gives is sent, and where it made an entry the
-- gate is visited with that.
abbrev pub worker_deeds : ℕ → Turn → List Deed
worker_deeds worker (was_taken a h) =
    acted (arrival_act a) ∷ visited (before worker)
    ∷ (all_acted h.acts ++ visits_behind worker a.peer (request_id_of h.event) (audited_of h.applied))
worker_deeds worker turn = all_acted (acts_of turn)

-- Between two states of its wire, and of what records its items, a worker of this number has run so
-- many rounds.
abbrev pub HasWorked : {W K : Type 0} → (W → List Deed → W → Type 0) → (K → List Item → K → Type 0)
    → RunStart → ℕ → ℕ → W → W → K → K → ℕ → ℕ → End → Type 0
HasWorked did kept s rounds worker a b k l amount later_amount how =
    HasRun did kept (worker_deeds worker) (IsWorkerTurn s) rounds a b k l amount later_amount how

-- ---- ports

-- A port lends memory for one octet more than a frame has at most.
abbrev pub frame_space : ℕ
frame_space = MAX_FRAME_LEN + 1

-- the ports by which an event's frame goes out, by its receipt
abbrev pub egress_of : Applied → List ℕ
egress_of (Done receipt audit) = receipt.egress
egress_of (Dropped receipt cause audit) = receipt.egress
egress_of (Short back) = []
egress_of (HistoryFull back) = []

-- The frame of a datagram happened: its octets went to the peers of the ports that its receipt
-- names, and then what the ports send to their peers.
pub record IsForwarded (s : RunStart) (port : ℕ) (a : Arrival) (h : Happening) : Type 0 where
  pub frame : FrameIn
  pub reads : IsFrame a.octets frame
  pub happens : Happens s (event.Frame port frame)
      (frame_packets s.peers (egress_of h.applied) a.octets ++ ports_packets s h) h

abbrev pub IsRefusedFrame : Arrival → InputFault → Type 0
IsRefusedFrame a (refusal.Datagram cause) = ⊥
IsRefusedFrame a (refusal.Frame fault) = IsFault a.octets fault

abbrev pub IsPortTurn : RunStart → ℕ → Turn → Type 0
IsPortTurn s port nothing_came = Unit
IsPortTurn s port ended = Unit
IsPortTurn s port (broke fault) = Unit
IsPortTurn s port (was_refused a cause) = (a.space ≡ frame_space) × IsRefusedFrame a cause
IsPortTurn s port (was_taken a h) = (a.space ≡ frame_space) × IsForwarded s port a h
IsPortTurn s port (was_own h) = ⊥
IsPortTurn s port paused = ⊥

-- How the event of a port's link ends the port's line, if it does: also by want of memory.
abbrev pub end_by_link : Applied → Option End
end_by_link (Done receipt audit) = None
end_by_link (Dropped receipt cause audit) = None
end_by_link (Short back) = Some end.Memory
end_by_link (HistoryFull back) = Some end.Full

abbrev pub end_after_link : Applied → Option WireFault → Option End
end_after_link applied (Some fault) = Some (end.Wire fault)
end_after_link applied None = end_by_link applied

-- The link of a port went up: the first item that is recorded of it.
pub record HasLinked {W K : Type 0} (went : W → List Act → W → Type 0)
    (kept : K → List Item → K → Type 0) (s : RunStart) (port : ℕ) (a b : W) (k l : K)
    (amount later_amount : ℕ) (ends : Option End) : Type 0 where
  pub happening : Happening
  pub happens : Happens s (event.Link port true) (ports_packets s happening) happening
  pub behind : amount ≤ happening.made
  pub acts : went a happening.acts b
  pub recorded : kept k (item_of happening.applied ∷ []) l
  pub amount_is : later_amount ≡ amount + entry_count happening.applied
  pub ends_so : ends ≡ end_after_link happening.applied happening.fault

-- The link went up, and then the rounds of the port ran.
pub record HasLinkedAndRun {W K : Type 0} (went : W → List Act → W → Type 0)
    (kept : K → List Item → K → Type 0) (s : RunStart) (port rounds : ℕ) (a b : W) (k l : K)
    (amount later_amount : ℕ) (how : End) : Type 0 where
  pub between : W
  pub first_kept : K
  pub first_amount : ℕ
  pub linked : HasLinked went kept s port a between k first_kept amount first_amount None
  pub run : HasRun went kept acts_of (IsPortTurn s port) rounds between b first_kept l
      first_amount later_amount how

-- A whole line of a port: there was no memory for its first item; or its link ended it; or that went
-- up, and the rounds ran.
abbrev pub HasPortRun : {W K : Type 0} → (W → List Act → W → Type 0)
    → (K → List Item → K → Type 0) → RunStart → ℕ → ℕ → W → W → K → K → ℕ → ℕ → End → Type 0
HasPortRun went kept s port rounds a b k l amount later_amount how =
    ((how ≡ end.Memory) × went a [] b × kept k [] l × (later_amount ≡ amount))
    ⊎ HasLinked went kept s port a b k l amount later_amount (Some how)
    ⊎ HasLinkedAndRun went kept s port rounds a b k l amount later_amount how

-- A whole line of a port that ended for want of memory has none for one item more, or its link found
-- none.
abbrev pub EndsPortShort : {W K : Type 0} → (K → Type 0) → (W → List Act → W → Type 0)
    → (K → List Item → K → Type 0) → RunStart → ℕ → W → W → K → K → ℕ → ℕ → End → Type 0
EndsPortShort has_space went kept s port a b k l amount later_amount how =
    how ≡ end.Memory → (has_space l → ⊥)
    ⊎ HasLinked went kept s port a b k l amount later_amount (Some end.Memory)

-- ---- the ticker

-- A second passed, and what the ports send went to their peers.
abbrev pub IsSecond : RunStart → Turn → Type 0
IsSecond s nothing_came = ⊥
IsSecond s ended = ⊥
IsSecond s (broke fault) = ⊥
IsSecond s (was_refused a cause) = ⊥
IsSecond s (was_taken a h) = ⊥
IsSecond s (was_own h) = Happens s event.Tick (ports_packets s h) h
IsSecond s paused = ⊥

-- A turn of the ticker: a second passed, or the pace ended.
abbrev pub IsTickerTurn : RunStart → Turn → Type 0
IsTickerTurn s paused = Unit
IsTickerTurn s turn = IsSecond s turn

-- What a turn of the ticker does, in order: its pace says true, and what the second gives is sent; or
-- its pace says false.
abbrev pub ticker_deeds : Turn → List Deed
ticker_deeds (was_own h) = answered true ∷ all_acted h.acts
ticker_deeds paused = answered false ∷ []
ticker_deeds turn = all_acted (acts_of turn)

-- Between two states of its wire a ticker of so many rounds has run: its pace was true once for each
-- second, ahead of what that second gave to send and behind what the seconds before it gave, and
-- false where it ended.
abbrev pub HasTicked : {W K : Type 0} → (W → List Deed → W → Type 0) → (K → List Item → K → Type 0)
    → RunStart → ℕ → W → W → K → K → ℕ → ℕ → End → Type 0
HasTicked did kept s rounds a b k l amount later_amount how =
    HasRun did kept ticker_deeds (IsTickerTurn s) rounds a b k l amount later_amount how
