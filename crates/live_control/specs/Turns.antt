-- The turns of the line of the control socket: what each did on both wires, what was recorded of it, how
-- it ended the line.
use Rattle.std.specs.Prelude.{ℕ, ◌+◌, List, [], ◌∷◌, ◌++◌, Option, Some, None, Result, Ok, Err}
use Rattle.std.specs.declared.net.socket_addr.SocketAddr.{SocketAddr}
use Rattle.wire_core.specs.Acts.{quiet, closed, failed, sent_act}
use Rattle.wire_core.specs.declared.wire.WireFault.{WireFault}
use Rattle.history_core.specs.declared.applied.Applied.{Applied}
use Rattle.history_core.specs.declared.applied.Applied.TheVariants.{Done, Dropped, Short, HistoryFull}
use Rattle.live_agent.specs.declared.trace.End.{End}
use Rattle.live_agent.specs.declared.trace.End.TheVariants as end
use Rattle.live_agent.specs.Turns.{Arrival, Happening, arrival_act, end_by}
use Rattle.control_text.specs.declared.command.CommandFault.{CommandFault}
use Rattle.live_control.specs.declared.item.ControlItem.{ControlItem}
use Rattle.live_control.specs.declared.item.ControlItem.TheVariants as item
use Rattle.live_control.specs.Deeds.{Deed, controlled, all_acted}

-- What a command is answered, and how that went: not at all, for want of memory for it, or sent, or
-- not.
pub record Reply : Type 0 where
  pub text : List ℕ
  pub how : Option (Result (Unit {0}) WireFault)

-- Nothing came; nothing will come any more; the control wire failed; a command came and was refused;
-- one came for the counts, when so many entries had been made; one came and its event happened.
pub data Turn : Type 0 where
  nothing_came : Turn
  ended : Turn
  broke : WireFault → Turn
  was_refused : Arrival → CommandFault → Reply → Turn
  was_reported : Arrival → ℕ → Reply → Turn
  was_done : Arrival → Happening → Reply → Turn

-- what a reply did on the control wire
abbrev pub deeds_by : SocketAddr → List ℕ → Option (Result (Unit {0}) WireFault) → List Deed
deeds_by peer text None = []
deeds_by peer text (Some how) = controlled (sent_act peer text how) ∷ []

abbrev pub reply_deeds : SocketAddr → Reply → List Deed
reply_deeds peer reply = deeds_by peer reply.text reply.how

-- what a turn did: the command came, what its event gave was sent by the ports, and then the answer
abbrev pub deeds_of : Turn → List Deed
deeds_of nothing_came = controlled quiet ∷ []
deeds_of ended = controlled closed ∷ []
deeds_of (broke fault) = controlled (failed fault) ∷ []
deeds_of (was_refused a refusal reply) = controlled (arrival_act a) ∷ reply_deeds a.peer reply
deeds_of (was_reported a made reply) = controlled (arrival_act a) ∷ reply_deeds a.peer reply
deeds_of (was_done a h reply) = controlled (arrival_act a) ∷ (all_acted h.acts ++ reply_deeds a.peer reply)

-- what is recorded of an event
abbrev pub item_of : Applied → ControlItem
item_of (Done receipt audit) = item.Entered receipt
item_of (Dropped receipt cause audit) = item.Entered receipt
item_of (Short back) = item.Short
item_of (HistoryFull back) = item.Full

-- what is recorded of a turn: one item for each command
abbrev pub items_of : Turn → List ControlItem
items_of nothing_came = []
items_of ended = []
items_of (broke fault) = []
items_of (was_refused a refusal reply) = item.Refused refusal ∷ []
items_of (was_reported a made reply) = item.Reported ∷ []
items_of (was_done a h reply) = item_of h.applied ∷ []

-- how a reply ends the line, if it does: by want of memory for it, or where it could not be sent
abbrev pub end_by_reply : Option (Result (Unit {0}) WireFault) → Option End
end_by_reply None = Some end.Memory
end_by_reply (Some (Ok done)) = None
end_by_reply (Some (Err fault)) = Some (end.Wire fault)

-- how an event and its reply end the line, if they do: where something could not be sent, by want of
-- memory for the reply, or where no number is left for an entry
abbrev pub end_after : Applied → Option WireFault → Option (Result (Unit {0}) WireFault) → Option End
end_after applied (Some fault) how = Some (end.Wire fault)
end_after applied None None = Some end.Memory
end_after applied None (Some (Err fault)) = Some (end.Wire fault)
end_after applied None (Some (Ok done)) = end_by applied

-- how a turn ends its line, if it does
abbrev pub end_of : Turn → Option End
end_of nothing_came = None
end_of ended = Some end.Closed
end_of (broke fault) = Some (end.Wire fault)
end_of (was_refused a refusal reply) = end_by_reply reply.how
end_of (was_reported a made reply) = end_by_reply reply.how
end_of (was_done a h reply) = end_after h.applied h.fault reply.how

-- how many entries the events of items made
abbrev pub entered_in : List ControlItem → ℕ
entered_in [] = 0
entered_in (item.Entered receipt ∷ items) = 1 + entered_in items
entered_in (item.Refused refusal ∷ items) = entered_in items
entered_in (item.Reported ∷ items) = entered_in items
entered_in (item.Short ∷ items) = entered_in items
entered_in (item.Full ∷ items) = entered_in items
