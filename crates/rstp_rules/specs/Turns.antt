-- Ports that became forwarding start topology changes, each in its turn (IEEE 802.1D-2004 17.31).
use Rattle.std.specs.Prelude.{◌≡◌, ℕ, ◌<◌, Bool, ◌==◌, false, ◌&&◌, not, if◌then◌else◌, List, [], ◌∷◌, map, length, slice_index_or, slice_set}
use Rattle.std.specs.List.{list_any}
use Rattle.std.proofs.Common.{zero, suc}
use Rattle.frame_core.specs.declared.bpdu.BridgeId.{BridgeId}
use Rattle.frame_core.specs.declared.bpdu.PriorityVector.{PriorityVector}
use Rattle.rstp_rules.specs.declared.port.Role.TheVariants.{Disabled}
use Rattle.rstp_rules.specs.declared.port.State.TheVariants.{Discarding}
use Rattle.rstp_rules.specs.declared.row.PortInEvent.{PortInEvent}
use Rattle.rstp_rules.specs.declared.row.Timing.{Timing}
use Rattle.rstp_rules.specs.Ports.{opening_port}
use Rattle.rstp_rules.specs.Transitions.{has_begun, with_transition_counted, with_change_started, with_change_spread}

-- where there is no port
abbrev pub no_bridge : BridgeId
no_bridge = record { priority = 0; address = record { 0 = 0 ∷ 0 ∷ 0 ∷ 0 ∷ 0 ∷ 0 ∷ [] } }

abbrev pub no_vector : PriorityVector
no_vector = record { root = no_bridge; cost = 0; bridge = no_bridge; port = 0 }

abbrev pub no_row : PortInEvent
no_row = record {
  inputs = record { number = 0; id = 0; cost = 0; enabled = false; on = false; point_to_point = false; edge = false; migrate = false; was_enabled = false; was_edge = false };
  was = record { role = Disabled; state = Discarding; vector = no_vector };
  port = opening_port no_vector (record { message_age = 0; max_age = 0; hello = 0; forward_delay = 0 });
  proposed = false;
  flushed = false;
}

-- The other ports.
abbrev pub with_change_spread_but : Timing → ℕ → PortInEvent → PortInEvent
with_change_spread_but t port r = if r.inputs.number == port then r else with_change_spread t r

-- A port that became forwarding: its transitions rise by one, and where it is not at the edge it
-- starts to signal a change.
abbrev pub after_begin : Timing → PortInEvent → PortInEvent
after_begin t r = if r.port.oper_edge then with_transition_counted r else with_change_started t (with_transition_counted r)

-- The turn of row k: where it became forwarding and is not at the edge, the other ports signal the
-- change too.
abbrev pub turn_at : Timing → List PortInEvent → ℕ → List PortInEvent
turn_at t rows k = let r = slice_index_or rows k no_row in
    if has_begun r
    then (if r.port.oper_edge then slice_set rows k (after_begin t r) else map (with_change_spread_but t r.inputs.number) (slice_set rows k (after_begin t r)))
    else rows

-- The turns of the first n rows, in ascending order.
abbrev pub first_turns : Timing → ℕ → List PortInEvent → List PortInEvent
first_turns t zero rows = rows
first_turns t (suc n) rows = turn_at t (first_turns t n rows) n

abbrev pub turns : Timing → List PortInEvent → List PortInEvent
turns t rows = first_turns t (length rows) rows

-- All turns at once. A port starts a topology change where it became forwarding and is not at the
-- edge.
abbrev pub starts_change : PortInEvent → Bool
starts_change r = has_begun r && not r.port.oper_edge

abbrev pub another_starts : List PortInEvent → PortInEvent → Bool
another_starts rows r = list_any (λ q. not (q.inputs.number == r.inputs.number) && starts_change q) rows

-- What becomes of a port: it begins to forward; and where another port starts a change, it signals
-- that too.
abbrev pub with_changes_signalled : Timing → Bool → PortInEvent → PortInEvent
with_changes_signalled t another r =
    let own = if has_begun r then after_begin t r else r in
    if another then with_change_spread t own else own

-- No two rows are of one port.
abbrev pub AreDistinct : List PortInEvent → Type 0
AreDistinct rows =
    (i j : ℕ) → i < length rows → j < length rows → (slice_index_or rows i no_row).inputs.number ≡ (slice_index_or rows j no_row).inputs.number → i ≡ j
