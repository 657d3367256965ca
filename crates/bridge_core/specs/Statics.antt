-- The static rows of a bridge: settings that say by which ports frames to an address may go, for an
-- address from one port or from any (IEEE 802.1D-2004 7.9.1; RFC 4188 dot1dStaticTable).
use Rattle.std.specs.Prelude.{◌≡◌, ℕ, Bool, true, false, ◌||◌, not, if◌then◌else◌, List, Option, Some, None}
use Rattle.std.specs.List.{AllByRecursion}
use Rattle.frame_core.specs.declared.mac.Mac.{Mac}
use Rattle.fdb_core.specs.declared.port_set.PortSet.{PortSet}
use Rattle.fdb_core.specs.declared.static_row.StaticIndex.{StaticIndex}
use Rattle.fdb_core.specs.declared.static_row.StaticRow.{StaticRow}
use Rattle.fdb_core.specs.PortSets.{first_ports, has_all, IsOfPorts}
use Rattle.fdb_core.specs.Statics.{IsRising, row_of, put_row, without_row, HasPlaceFor}
use Rattle.bridge_core.specs.Bridge.{BridgeState, port_count}

-- Whether a row is made, and its ports: where there is none it is not, and its ports are all.
abbrev pub is_made_in : Option StaticRow → Bool
is_made_in None = false
is_made_in (Some row) = row.made

abbrev pub ports_of : ℕ → Option StaticRow → PortSet
ports_of count None = first_ports count
ports_of count (Some row) = row.ports

abbrev pub is_made : BridgeState → StaticIndex → Bool
is_made b i = is_made_in (row_of b.statics.rows i)

abbrev pub allowed : BridgeState → StaticIndex → PortSet
allowed b i = ports_of (port_count b) (row_of b.statics.rows i)

-- Whether a row says something, at a bridge of so many ports: it is made, or its ports are not all.
-- Only such rows are kept.
abbrev pub says : ℕ → Bool → PortSet → Bool
says count made ports = made || not (has_all count ports)

abbrev pub rows_with : ℕ → StaticRow → List StaticRow → List StaticRow
rows_with count row rows =
    if says count row.made row.ports then put_row rows row else without_row rows row.index

-- What is made of an index, and which ports are allowed to it, is set.
abbrev pub with_static : StaticRow → BridgeState → BridgeState
with_static row b = record b { statics = record b.statics { rows = rows_with (port_count b) row b.statics.rows } }

abbrev pub set_made : StaticIndex → Bool → BridgeState → BridgeState
set_made i made b = with_static (record { index = i; made = made; ports = allowed b i }) b

abbrev pub set_allowed : StaticIndex → PortSet → BridgeState → BridgeState
set_allowed i ports b = with_static (record { index = i; made = is_made b i; ports = ports }) b

-- They may be set: where that brings in a row, there is a place for it.
abbrev pub HasPlaceFrom : BridgeState → StaticIndex → Bool → PortSet → Type 0
HasPlaceFrom b i made ports = says (port_count b) made ports ≡ true → HasPlaceFor b.statics i

-- A row is of the ports of a bridge of so many, and says something.
pub record IsStaticRow (count : ℕ) (row : StaticRow) : Type 0 where
  pub ports : IsOfPorts count row.ports
  pub says : says count row.made row.ports ≡ true

abbrev pub AreStaticRows : ℕ → List StaticRow → Type 0
AreStaticRows count rows = AllByRecursion (IsStaticRow count) rows

-- What holds of the static rows of every bridge.
pub record HasStatics (b : BridgeState) : Type 0 where
  pub rising : IsRising b.statics.rows
  pub rows : AreStaticRows (port_count b) b.statics.rows

-- The row of an index, where it is made.
abbrev pub if_made : Option StaticRow → Option StaticRow
if_made None = None
if_made (Some row) = if row.made then Some row else None

abbrev pub made_row : List StaticRow → StaticIndex → Option StaticRow
made_row rows i = if_made (row_of rows i)

-- The row that decides about frames to an address that come by a port: the made row of that port,
-- or else the made row of all ports, which has the port 0.
abbrev pub or_row : Option StaticRow → Option StaticRow → Option StaticRow
or_row (Some row) other = Some row
or_row None other = other

abbrev pub listed : List StaticRow → ℕ → Mac → Option StaticRow
listed rows port d =
    or_row (made_row rows (record { address = d; port = port })) (made_row rows (record { address = d; port = 0 }))
