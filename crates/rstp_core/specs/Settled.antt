-- What is kept of the settings when they are settled, by which the next settling finds what has
-- changed.
use Rattle.std.specs.Prelude.{ℕ, ◌-◌, List, map, slice_index_or}
use Rattle.rstp_settings.specs.Table.{Table, get}
use Rattle.rstp_settings.specs.declared.key.Key.TheVariants as key
use Rattle.rstp_settings.specs.declared.key.BridgeKey.TheVariants as bridge
use Rattle.rstp_rules.specs.declared.settled.Timers.{Timers}
use Rattle.rstp_rules.specs.declared.settled.SettledPort.{SettledPort}
use Rattle.rstp_rules.specs.Lines.{timers_of, settled_port_of, no_settled_port}

-- The version, the three times, and for each port whether it is enabled and whether it is set to be
-- at the edge.
pub record SettledValues : Type 0 where
  pub version : ℕ
  pub timers : Timers
  pub ports : List SettledPort

abbrev pub settled_of : Table → SettledValues
settled_of s = record { version = get s (key.Bridge bridge.Version); timers = timers_of s; ports = map settled_port_of s.ports }

-- What is kept of a port.
abbrev pub settled_port : SettledValues → ℕ → SettledPort
settled_port w port = slice_index_or w.ports (port - 1) no_settled_port
