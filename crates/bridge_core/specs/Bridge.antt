-- What a bridge is: its settings, its spanning tree, the addresses that it has learned, its static
-- rows, and its counters.
use Rattle.std.specs.Prelude.{ℕ, ◌-◌, Bool, List, length, slice_index_or}
use Rattle.frame_core.specs.declared.mac.Mac.{Mac}
use Rattle.fdb_core.specs.declared.row.LearnedRow.{LearnedRow}
use Rattle.fdb_core.specs.Statics.{Statics, no_statics}
use Rattle.rstp_settings.specs.Table.{Table, IsPortOf}
use Rattle.rstp_settings.specs.declared.config.PortConfig.{PortConfig}
use Rattle.rstp_rules.specs.declared.port.Port.{Port}
use Rattle.rstp_core.specs.Tree.{Tree, port_at, config_at}
use Rattle.rstp_core.specs.Runs.{is_on as tree_is_on}
use Rattle.bridge_core.specs.declared.counters.PortCounters.{PortCounters}

-- The frames whose source was not learned for want of space, and the counters of port 1, port 2, ..
pub record Counters : Type 0 where
  pub entry_discards : ℕ
  pub ports : List PortCounters

-- The spanning tree has the bridge's address, the ports' configurations, what was settled, and what
-- each port holds. The learned rows are by rising address, the static ones by rising index.
pub record BridgeState : Type 0 where
  pub settings : Table
  pub tree : Tree
  pub learned : List LearnedRow
  pub statics : Statics
  pub counters : Counters

-- The bridge address, and how many ports there are.
abbrev pub address_of : BridgeState → Mac
address_of b = b.tree.address

abbrev pub port_count : BridgeState → ℕ
port_count b = length b.tree.ports

-- Whether it has a port: ports are numbered from 1.
abbrev pub HasPort : BridgeState → ℕ → Type 0
HasPort b port = IsPortOf (port_count b) port

-- The same bridge, sure of memory for no static row: all that a bridge is besides that promise.
abbrev pub without_places : BridgeState → BridgeState
without_places b = record b { statics = record b.statics { places = 0 } }

-- And without its static rows.
abbrev pub without_statics : BridgeState → BridgeState
without_statics b = record b { statics = no_statics }

-- What is configured of a port; what its spanning tree holds; and its counters.
abbrev pub no_counters : PortCounters
no_counters = record { frames_in = 0; frames_out = 0; discards_in = 0 }

abbrev pub config_of : BridgeState → ℕ → PortConfig
config_of b port = config_at b.tree port

abbrev pub port_of : BridgeState → ℕ → Port
port_of b port = port_at b.tree port

abbrev pub counters_of : BridgeState → ℕ → PortCounters
counters_of b port = slice_index_or b.counters.ports (port - 1) no_counters

-- A port is on where it is enabled by its setting and its link is up.
abbrev pub is_on : BridgeState → ℕ → Bool
is_on b port = tree_is_on b.settings b.tree port
