-- The settings of a bridge as a finite map from keys to numbers (IEEE 802.1D-2004 17.13, 17.14).
use Rattle.std.specs.Prelude.{ℕ, ◌-◌, ◌≤◌, Bool, false, ◌&&◌, ◌==◌, List, length, slice_index_or, slice_set, replicate, map}
use Rattle.rstp_settings.specs.declared.key.Key.{Key}
use Rattle.rstp_settings.specs.declared.key.Key.TheVariants.{Bridge, Port}
use Rattle.rstp_settings.specs.declared.key.BridgeValues.{BridgeValues}
use Rattle.rstp_settings.specs.declared.key.PortValues.{PortValues}
use Rattle.rstp_settings.specs.Values.{bridge_value, with_bridge_value, port_value, with_port_value, IsBridgeRange, IsPortRange, same_bridge_key, same_port_key}

-- all settings: those of the bridge, and those of port 1, port 2, ..
pub record Table : Type 0 where
  pub bridge : BridgeValues
  pub ports : List PortValues

-- read where no port is
abbrev pub no_values : PortValues
no_values = record { priority = 0; enable = 0; cost = 0; migrate = 0; edge = 0; point_to_point = 0 }

abbrev pub port_at : Table → ℕ → PortValues
port_at t port = slice_index_or t.ports (port - 1) no_values

-- Ports are numbered from 1: one of so many ports.
abbrev pub IsPortOf : ℕ → ℕ → Type 0
IsPortOf ports port = (1 ≤ port) × (port ≤ ports)

abbrev pub HasKey : Table → Key → Type 0
HasKey t (Bridge k) = Unit {0}
HasKey t (Port port k) = IsPortOf (length t.ports) port

abbrev pub get : Table → Key → ℕ
get t (Bridge k) = bridge_value t.bridge k
get t (Port port k) = port_value (port_at t port) k

abbrev pub put : Table → Key → ℕ → Table
put t (Bridge k) v = record t { bridge = with_bridge_value t.bridge k v }
put t (Port port k) v =
    record t { ports = slice_set t.ports (port - 1) (with_port_value (port_at t port) k v) }

abbrev pub IsInRange : Key → ℕ → Type 0
IsInRange (Bridge k) v = IsBridgeRange k v
IsInRange (Port port k) v = IsPortRange k v

-- each setting has a value of its range
abbrev pub IsValid : Table → Type 0
IsValid t = (k : Key) → HasKey t k → IsInRange k (get t k)

abbrev pub same_key : Key → Key → Bool
same_key (Bridge k) (Bridge l) = same_bridge_key k l
same_key (Port port k) (Port other l) = port == other && same_port_key k l
same_key (Bridge k) (Port other l) = false
same_key (Port port k) (Bridge l) = false

abbrev pub opening_port : PortValues
opening_port =
    record { priority = 128; enable = 1; cost = 0; migrate = 0; edge = 2; point_to_point = 2 }

-- what the settings are at first
abbrev pub opening : ℕ → Table
opening n = record {
  bridge = record { priority = 32768; max_age = 2000; hello = 200; forward_delay = 1500; version = 2; hold_count = 6; aging = 300 };
  ports = replicate n opening_port;
}

-- the settings with each migration spent
abbrev pub without_migration_check : PortValues → PortValues
without_migration_check p = record p { migrate = 0 }

abbrev pub without_migration_checks : Table → Table
without_migration_checks t = record t { ports = map without_migration_check t.ports }
