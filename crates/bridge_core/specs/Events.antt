-- What each event makes of a bridge, and what it gives.
use Rattle.std.specs.Prelude.{◌≡◌, ◌≢◌, ℕ, Bool, true, ◌==◌, if◌then◌else◌, List, [], length, map, replicate, Option, Some, None}
use Rattle.frame_core.specs.declared.mac.Mac.{Mac}
use Rattle.frame_core.specs.declared.bpdu.Bpdu.{Bpdu}
use Rattle.frame_core.specs.declared.frame.FrameIn.{FrameIn}
use Rattle.fdb_core.specs.Rows.{older_row, young_rows, other_rows}
use Rattle.fdb_core.specs.Statics.{made_rows}
use Rattle.rstp_settings.specs.Table.{get, put, without_migration_checks}
use Rattle.rstp_settings.specs.declared.key.Key.{Key}
use Rattle.rstp_settings.specs.declared.key.Key.TheVariants as key
use Rattle.rstp_settings.specs.declared.key.BridgeKey.TheVariants as bridge
use Rattle.rstp_core.specs.Steps.{Step, tick_step, arrival_step, link_step, settling_step}
use Rattle.bridge_core.specs.declared.bridge.Forwarding.{Forwarding}
use Rattle.bridge_core.specs.Bridge.{BridgeState, HasPort, port_count, is_on}
use Rattle.bridge_core.specs.Counting.{with_frame_in, with_discard, at_port, sent_where, has_bpdu, discards_after}
use Rattle.bridge_core.specs.Forwarding.{learnt_of, rows_after, forwards, goes_out, egress_of}

-- A step of the spanning tree: the learned rows of the flushed ports go, and each BPDU is a frame
-- out of its port.
unfoldable pub after_tree_step : Step → BridgeState → BridgeState
after_tree_step e b = record b {
  tree = e.tree;
  learned = other_rows e.flushed b.learned;
  counters = record b.counters { ports = sent_where (has_bpdu e.bpdus) b.counters.ports };
}

-- A second passes: each learned row is a second older, and those that have reached the aging time
-- go.
abbrev pub after_ageing : BridgeState → BridgeState
after_ageing b = record b { learned = young_rows (get b.settings (key.Bridge bridge.Aging)) (map older_row b.learned) }

unfoldable pub tick_of : BridgeState → Step
tick_of b = tick_step b.settings b.tree

unfoldable pub after_tick : BridgeState → BridgeState
after_tick b = after_tree_step (tick_of b) (after_ageing b)

-- The link of a port is up, or down.
unfoldable pub link_of : ℕ → Bool → BridgeState → Step
link_of port up b = link_step b.settings port up b.tree

unfoldable pub after_link : ℕ → Bool → BridgeState → BridgeState
after_link port up b = after_tree_step (link_of port up b) b

-- The settings are settled, the migrations spent, and the static rows that are not made dropped: so
-- the ports that were set for such a row are all ports again.
unfoldable pub settling_of : BridgeState → Step
settling_of b = settling_step b.settings b.tree

unfoldable pub after_settling : BridgeState → BridgeState
after_settling b =
    after_tree_step (settling_of b)
    (record b { settings = without_migration_checks b.settings; statics = record b.statics { rows = made_rows b.statics.rows } })

-- A setting gets a value.
abbrev pub set_bridge : Key → ℕ → BridgeState → BridgeState
set_bridge k v b = record b { settings = put b.settings k v }

-- What a frame gives: the bridge after it, the ports by which it goes out, and what each port
-- sends.
pub record Framed : Type 0 where
  pub bridge : BridgeState
  pub egress : List ℕ
  pub bpdus : List (Option Bpdu)

-- A frame at the bridge b gave this, where the bridge c was left and this answered: so many ports
-- as before, and a place for what each sends.
pub record Gives (given : Framed) (b c : BridgeState) (out : Forwarding) : Type 0 where
  pub step : c ≡ given.bridge
  pub egress : out.egress.items ≡ given.egress
  pub bpdus : out.bpdus.items ≡ given.bpdus
  pub ports : port_count c ≡ port_count b
  pub each : length out.bpdus.items ≡ port_count b

abbrev pub no_bpdus : BridgeState → List (Option Bpdu)
no_bpdus b = replicate (port_count b) None

-- One more frame in at a port.
unfoldable pub after_reception : ℕ → BridgeState → BridgeState
after_reception port b = record b { counters = record b.counters { ports = at_port port with_frame_in b.counters.ports } }

-- The source is learned where it is to be; where there is no space for it, that is counted.
unfoldable pub after_learning : ℕ → FrameIn → Bool → BridgeState → BridgeState
after_learning port f no_room b = record b {
  learned = rows_after (learnt_of b port f no_room) b.learned f.source port;
  counters = record b.counters { entry_discards = discards_after (learnt_of b port f no_room) b.counters.entry_discards };
}

-- A frame that is no BPDU goes out; where it goes nowhere, it is discarded.
unfoldable pub after_forwarding : ℕ → Mac → BridgeState → BridgeState
after_forwarding port d b = record b {
  counters = record b.counters {
    ports = at_port port (with_discard (length (egress_of b port d) == 0)) (sent_where (goes_out b port d) b.counters.ports);
  };
}

unfoldable pub data_result : ℕ → FrameIn → Bool → BridgeState → Framed
data_result port f no_room b =
    let known = after_learning port f no_room b in
    record { bridge = after_forwarding port f.destination known; egress = egress_of known port f.destination; bpdus = no_bpdus b }

-- A BPDU comes by a port.
unfoldable pub arrival_of : ℕ → Bpdu → BridgeState → Step
arrival_of port m b = arrival_step b.settings port m b.tree

unfoldable pub bpdu_result : ℕ → Bpdu → BridgeState → Framed
bpdu_result port m b = record { bridge = after_tree_step (arrival_of port m b) b; egress = []; bpdus = (arrival_of port m b).bpdus }

abbrev pub reception_result : ℕ → FrameIn → Option Bpdu → Bool → BridgeState → Framed
reception_result port f None no_room b = data_result port f no_room b
reception_result port f (Some m) no_room b = bpdu_result port m b

-- A frame at a port. Where the port is off nothing changes and nothing goes out. `no_room` notes
-- that the growth for a learned row was refused.
unfoldable pub frame_result : BridgeState → ℕ → FrameIn → Bool → Framed
frame_result b port f no_room =
    if is_on b port then reception_result port f f.bpdu no_room (after_reception port b) else record { bridge = b; egress = []; bpdus = no_bpdus b }

-- A frame that came by a port goes out by another one: both forward.
pub record GoesBetween (b : BridgeState) (port out : ℕ) : Type 0 where
  pub has_port : HasPort b out
  pub other : out ≢ port
  pub from : forwards b port ≡ true
  pub to : forwards b out ≡ true
