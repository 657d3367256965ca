-- Each event as a function: the tree that it leaves, what is sent, and whose learned rows go. The
-- root vector is the candidate that no candidate beats; all else of an event follows from it.
use Rattle.std.specs.Prelude.{◌≡◌, ℕ, Bool, true, false, not, List, map, Option}
use Rattle.std.specs.List.{list_any, find}
use Rattle.std.specs.Option.{unwrap_or}
use Rattle.frame_core.specs.declared.bpdu.BridgeId.{BridgeId}
use Rattle.frame_core.specs.declared.bpdu.Times.{Times}
use Rattle.frame_core.specs.declared.bpdu.Bpdu.{Bpdu}
use Rattle.rstp_settings.specs.Table.{Table}
use Rattle.rstp_rules.specs.declared.row.PortInEvent.{PortInEvent}
use Rattle.rstp_rules.specs.declared.row.Best.{Best}
use Rattle.rstp_rules.specs.declared.row.Context.{Context}
use Rattle.rstp_rules.specs.Lines.{own_id, timers_of, times_in_force, context_of}
use Rattle.rstp_rules.specs.Roles.{beats, after_expiry, candidates, own_best}
use Rattle.rstp_rules.specs.Restarts.{after_link, after_settling}
use Rattle.rstp_rules.specs.Arrivals.{after_arrival}
use Rattle.rstp_rules.specs.Ticks.{after_tick}
use Rattle.rstp_rules.specs.Sends.{bpdu_of, after_sending, flushed_ports}
use Rattle.rstp_core.specs.Settled.{settled_of}
use Rattle.rstp_core.specs.Passes.{rows_with_roles, ready}
use Rattle.rstp_core.specs.Tree.{Tree, rows_of, ports_of, has_change, facts_after, times_before, has_other_version}
use Rattle.rstp_core.specs.declared.rstp.Outcome.{Outcome}

-- What an event leaves and gives: the tree, what each port sends, and the numbers of the ports
-- whose learned rows go.
pub record Step : Type 0 where
  pub tree : Tree
  pub bpdus : List (Option Bpdu)
  pub flushed : List ℕ

-- A tree and an outcome as a step.
abbrev pub step_to : Tree → Outcome → Step
step_to u out = record { tree = u; bpdus = out.bpdus.items; flushed = out.flushed.items }

-- The candidate that no candidate beats (IEEE 802.1D-2004 17.21.25).
abbrev pub is_unbeaten : List Best → Best → Bool
is_unbeaten bs b = not (list_any (λ c. beats c b) bs)

abbrev pub best_candidate : Best → List Best → Best
best_candidate none bs = unwrap_or (find (is_unbeaten bs) bs) none

-- The root vector of these rows.
unfoldable pub root_of : BridgeId → List PortInEvent → Best
root_of own rows = best_candidate (own_best own) (candidates own rows)

-- An event under way: whether it is a tick, the rows that its own part left of a tree, and the
-- times that the times in force are measured against: those in force before it under the settings;
-- in settling, under the settled values.
pub record Event : Type 0 where
  pub settings : Table
  pub tree : Tree
  pub tick : Bool
  pub was : Times
  pub rows : List PortInEvent

-- This bridge's identifier, and the rows without vectors that are too old.
abbrev pub event_own : Event → BridgeId
event_own e = own_id e.settings e.tree.address

abbrev pub fresh_rows : Event → List PortInEvent
fresh_rows e = map after_expiry e.rows

unfoldable pub event_root : Event → Best
event_root e = root_of (event_own e) (fresh_rows e)

-- The rows with their roles, and what then holds for all ports.
unfoldable pub roled_rows : Event → List PortInEvent
roled_rows e = rows_with_roles (event_own e) (event_root e) (fresh_rows e)

unfoldable pub event_context : Event → Context
event_context e = context_of e.settings (event_own e) (event_root e) e.was (times_in_force (timers_of e.settings) (roled_rows e))

-- The rows as they are ready to send, and as sending leaves them.
unfoldable pub ready_rows : Event → List PortInEvent
ready_rows e = ready e.tick (event_context e) (roled_rows e)

unfoldable pub left_rows : Event → List PortInEvent
left_rows e = map (after_sending (event_context e)) (ready_rows e)

-- What the event leaves of the tree.
unfoldable pub tree_after : Event → Tree
tree_after e = record e.tree {
  ports = ports_of (left_rows e);
  facts = facts_after e.tick (event_context e) (has_change e.tree.ports) (has_change (ports_of (left_rows e))) e.tree.facts;
}

unfoldable pub step_of : Event → Step
step_of e = record { tree = tree_after e; bpdus = map (bpdu_of (event_context e)) (ready_rows e); flushed = flushed_ports (ready_rows e) }

-- A tick of one second, a BPDU at a port, the link of a port up or down, and settling the settings.
abbrev pub tick_event : Table → Tree → Event
tick_event s t = record { settings = s; tree = t; tick = true; was = times_before s t; rows = map after_tick (rows_of s t) }

abbrev pub arrival_event : Table → ℕ → Bpdu → Tree → Event
arrival_event s port b t = record { settings = s; tree = t; tick = false; was = times_before s t; rows = after_arrival s (own_id s t.address) port b (rows_of s t) }

abbrev pub link_event : Table → ℕ → Bool → Tree → Event
link_event s port up t = record { settings = s; tree = t; tick = false; was = times_before s t; rows = map (after_link port up) (rows_of s t) }

abbrev pub settling_event : Table → Tree → Event
settling_event s t = record {
  settings = s;
  tree = record t { settled = settled_of s };
  tick = false;
  was = times_in_force t.settled.timers (rows_of s t);
  rows = map (after_settling (has_other_version s t.settled)) (rows_of s t);
}

unfoldable pub tick_step : Table → Tree → Step
tick_step s t = step_of (tick_event s t)

unfoldable pub arrival_step : Table → ℕ → Bpdu → Tree → Step
arrival_step s port b t = step_of (arrival_event s port b t)

unfoldable pub link_step : Table → ℕ → Bool → Tree → Step
link_step s port up t = step_of (link_event s port up t)

unfoldable pub settling_step : Table → Tree → Step
settling_step s t = step_of (settling_event s t)

-- An event that led from the tree t to the tree u and gave this outcome did this step, and left
-- address and configuration.
pub record IsStep (does : Step) (t u : Tree) (out : Outcome) : Type 0 where
  pub gives : does ≡ step_to u out
  pub address : u.address ≡ t.address
  pub config : u.config ≡ t.config
