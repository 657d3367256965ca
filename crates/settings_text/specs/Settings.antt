-- The settings of a bridge that a text keeps, and which of them a bridge can have.
use Rattle.std.specs.Prelude.{◌≡◌, ℕ, ◌+◌, ◌*◌, ◌≤◌, ◌&&◌, Bool, true, nat_le, List, length}
use Rattle.std.specs.List.{AllByRecursion}
use Rattle.rstp_settings.specs.Table.{Table, IsValid, opening}
use Rattle.rstp_settings.specs.declared.key.BridgeValues.{BridgeValues}
use Rattle.rstp_settings.specs.declared.key.PortValues.{PortValues}
use Rattle.fdb_core.specs.declared.static_row.StaticRow.{StaticRow}
use Rattle.fdb_core.specs.PortSets.{IsOfPorts}
use Rattle.fdb_core.specs.Statics.{IsRising}
use Rattle.bridge_core.specs.Bridge.{BridgeState, port_count}
use Rattle.bridge_core.specs.StaticIndexes.{IsStaticIndex}
use Rattle.setphase_core.specs.declared.limits.TheConstants.{MAX_STATIC_ROWS}
use Rattle.settings_text.specs.declared.settings.KeptSettings.{KeptSettings}

-- the settings of the bridge and of port 1, port 2, ..; and the static rows, by rising index
pub record Kept : Type 0 where
  pub bridge : BridgeValues
  pub ports : List PortValues
  pub statics : List StaticRow

abbrev pub kept : KeptSettings → Kept
kept s = record { bridge = s.bridge; ports = s.ports.items; statics = s.statics.items }

-- those that have a number, as the finite map that a bridge has
abbrev pub table_of : Kept → Table
table_of k = record { bridge = k.bridge; ports = k.ports }

-- what they are at first
abbrev pub opening_bridge : BridgeValues
opening_bridge = (opening 0).bridge

-- 2 x (forward delay - 1 s) >= maximum age >= 2 x (hello time + 1 s) (17.14), in 1/100 s
abbrev pub timers_agree : BridgeValues → Bool
timers_agree b = nat_le (b.max_age + 200) (2 * b.forward_delay) && nat_le (2 * b.hello + 200) b.max_age

-- a static row that a bridge can have once its settings are settled
pub record IsKeptRow (b : BridgeState) (row : StaticRow) : Type 0 where
  pub index : IsStaticIndex b row.index
  pub made : row.made ≡ true
  pub ports : IsOfPorts (port_count b) row.ports

-- A bridge can have these settings: it has so many ports; each setting has a value that a Set may write; the
-- timers go together as a Set wants it; each static row is one that the bridge may have, none comes twice, and
-- there are not too many.
pub record CanHave (b : BridgeState) (k : Kept) : Type 0 where
  pub ports : length k.ports ≡ port_count b
  pub values : IsValid (table_of k)
  pub timers : timers_agree k.bridge ≡ true
  pub rows : AllByRecursion (IsKeptRow b) k.statics
  pub rising : IsRising k.statics
  pub few : length k.statics ≤ MAX_STATIC_ROWS
