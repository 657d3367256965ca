-- The turns of a line: what each did on its wire, what it left in the trace, how it ended the line.
use Rattle.std.specs.Prelude.{ℕ, ◌+◌, List, [], ◌∷◌, Option, Some, None}
use Rattle.std.specs.declared.net.socket_addr.SocketAddr.{SocketAddr}
use Rattle.wire_core.specs.Acts.{Act, got, quiet, closed, failed}
use Rattle.wire_core.specs.declared.wire.WireFault.{WireFault}
use Rattle.agent_core.specs.Buffered.{Buffered}
use Rattle.history_core.specs.declared.applied.Applied.{Applied}
use Rattle.history_core.specs.declared.applied.Applied.TheVariants.{Done, Dropped, Short, HistoryFull}
use Rattle.history_core.specs.declared.event.Event.{Event}
use Rattle.live_agent.specs.declared.trace.End.{End}
use Rattle.live_agent.specs.declared.trace.End.TheVariants as end
use Rattle.live_agent.specs.declared.trace.Item.{Item}
use Rattle.live_agent.specs.declared.trace.Item.TheVariants as item
use Rattle.live_agent.specs.declared.trace.InputFault.{InputFault}

-- A datagram that came, and how much memory was lent for it.
pub record Arrival : Type 0 where
  pub space : ℕ
  pub peer : SocketAddr
  pub octets : List ℕ

-- An event that a line had happen: how many entries the line's thread had made before, what became
-- of it, what it gave to send, and what was sent.
pub record Happening : Type 0 where
  pub event : Event
  pub made : ℕ
  pub applied : Applied
  pub buffer : Buffered
  pub acts : List Act
  pub fault : Option WireFault

-- Nothing came; nothing will come any more; the wire failed; a datagram came and was refused; a
-- datagram came and its event happened; an event of the line's own happened; the line's pace ended.
pub data Turn : Type 0 where
  nothing_came : Turn
  ended : Turn
  broke : WireFault → Turn
  was_refused : Arrival → InputFault → Turn
  was_taken : Arrival → Happening → Turn
  was_own : Happening → Turn
  paused : Turn

abbrev pub arrival_act : Arrival → Act
arrival_act a = got a.space a.peer a.octets

-- what a turn did on the wire
abbrev pub acts_of : Turn → List Act
acts_of nothing_came = quiet ∷ []
acts_of ended = closed ∷ []
acts_of (broke fault) = failed fault ∷ []
acts_of (was_refused a cause) = arrival_act a ∷ []
acts_of (was_taken a h) = arrival_act a ∷ h.acts
acts_of (was_own h) = h.acts
acts_of paused = []

-- what is left in a trace of an event
abbrev pub item_of : Applied → Item
item_of (Done receipt audit) = item.Entered receipt
item_of (Dropped receipt cause audit) = item.Entered receipt
item_of (Short back) = item.Short
item_of (HistoryFull back) = item.Full

-- what a turn left in the trace: one item for each event and each datagram that was refused
abbrev pub items_of : Turn → List Item
items_of nothing_came = []
items_of ended = []
items_of (broke fault) = []
items_of (was_refused a cause) = item.Refused cause ∷ []
items_of (was_taken a h) = item_of h.applied ∷ []
items_of (was_own h) = item_of h.applied ∷ []
items_of paused = []

-- How an event ends a line, if it does: by a fault of the wire, or where no number is left for an
-- entry.
abbrev pub end_by : Applied → Option End
end_by (Done receipt audit) = None
end_by (Dropped receipt cause audit) = None
end_by (Short back) = None
end_by (HistoryFull back) = Some end.Full

abbrev pub end_after : Applied → Option WireFault → Option End
end_after applied (Some fault) = Some (end.Wire fault)
end_after applied None = end_by applied

-- how a turn ends its line, if it does
abbrev pub end_of : Turn → Option End
end_of nothing_came = None
end_of ended = Some end.Closed
end_of (broke fault) = Some (end.Wire fault)
end_of (was_refused a cause) = None
end_of (was_taken a h) = end_after h.applied h.fault
end_of (was_own h) = end_after h.applied h.fault
end_of paused = Some end.Closed

-- how many entries the events of a trace made
abbrev pub entered_in : List Item → ℕ
entered_in [] = 0
entered_in (item.Entered receipt ∷ items) = 1 + entered_in items
entered_in (item.Refused cause ∷ items) = entered_in items
entered_in (item.Short ∷ items) = entered_in items
entered_in (item.Full ∷ items) = entered_in items
