-- The table that settings are written as: the bridge's address, and what differs from the opening.
use Rattle.std.specs.Prelude.{ℕ, ◌+◌, pos, Bool, not, ◌==◌, ◌&&◌, codes, if◌then◌else◌, List, [], ◌∷◌, map, filter, Option, Some, None}
use Rattle.std.specs.List.{range_with_len}
use Rattle.hex.specs.Hex.{encode_upper}
use Rattle.frame_core.specs.declared.mac.Mac.{Mac}
use Rattle.fdb_core.specs.declared.port_set.PortSet.{PortSet}
use Rattle.fdb_core.specs.declared.port_set.TheConstants.{MAX_SET_PORTS}
use Rattle.fdb_core.specs.declared.static_row.StaticRow.{StaticRow}
use Rattle.fdb_core.specs.PortSets.{has_port}
use Rattle.rstp_settings.specs.Table.{opening_port}
use Rattle.rstp_settings.specs.Values.{bridge_value, port_value}
use Rattle.rstp_settings.specs.declared.key.BridgeKey.{BridgeKey}
use Rattle.rstp_settings.specs.declared.key.BridgeKey.TheVariants as bridge
use Rattle.rstp_settings.specs.declared.key.BridgeValues.{BridgeValues}
use Rattle.rstp_settings.specs.declared.key.PortKey.{PortKey}
use Rattle.rstp_settings.specs.declared.key.PortKey.TheVariants as port
use Rattle.rstp_settings.specs.declared.key.PortValues.{PortValues}
use Rattle.setphase_core.specs.Settings.{same_port_values}
use Rattle.audit_core.specs.Text.{bridge_key_text, port_key_text}
use Rattle.toml.specs.Data.{Data, Members, string, integer, array, table}
use Rattle.toml.specs.View.{items_of}
use Rattle.settings_text.specs.Settings.{Kept, opening_bridge}
use Rattle.settings_text.specs.Building.{with_entries, members_from}
use Rattle.settings_text.specs.declared.port_row.PortRow.{PortRow}

abbrev pub number : ℕ → Data
number n = integer (pos n)

abbrev pub rows : List Data → Data
rows ds = array (items_of ds)

-- a number that is not that of the opening
abbrev pub unless : ℕ → ℕ → Option Data
unless opening n = if n == opening then None else Some (number n)

-- rows, if there are any
abbrev pub rows_if_any : List Data → Option Data
rows_if_any [] = None
rows_if_any (d ∷ ds) = Some (rows (d ∷ ds))

-- 12 hexadecimal digits
abbrev pub address_text : Mac → Data
address_text address = string (encode_upper address.0)

-- ---- ports

-- each port with its number, from this one on
abbrev pub numbered : ℕ → List PortValues → List PortRow
numbered n [] = []
numbered n (values ∷ ports) = record { number = n; values = values } ∷ numbered (n + 1) ports

-- a port that has a setting which is not that of the opening
abbrev pub is_changed : PortRow → Bool
is_changed row = not (same_port_values row.values opening_port)

-- such ports, with their numbers from this one on
abbrev pub changed_from : ℕ → List PortValues → List PortRow
changed_from n ports = filter is_changed (numbered n ports)

abbrev pub changed_ports : List PortValues → List PortRow
changed_ports ports = changed_from 1 ports

abbrev pub port_entry : PortValues → PortKey → List ℕ × Option Data
port_entry values key = (port_key_text key, unless (port_value opening_port key) (port_value values key))

-- its number, and what differs from the opening
abbrev pub port_entries : PortRow → List (List ℕ × Option Data)
port_entries row =
    (codes "number", Some (number row.number))
    ∷ port_entry row.values port.Priority ∷ port_entry row.values port.Enable
    ∷ port_entry row.values port.Cost ∷ port_entry row.values port.Migrate
    ∷ port_entry row.values port.Edge ∷ port_entry row.values port.PointToPoint ∷ []

abbrev pub port_members : PortRow → Members
port_members row = members_from (port_entries row)

abbrev pub port_data : PortRow → Data
port_data row = table (port_members row)

-- ---- static rows

-- the numbers of the ports of a set, rising
abbrev pub ports_of_set : PortSet → List ℕ
ports_of_set s = filter (has_port s) (range_with_len 1 MAX_SET_PORTS)

-- its address, the port by which frames come or 0 for all, and the ports by which they may go out
abbrev pub static_entries : StaticRow → List (List ℕ × Option Data)
static_entries row =
    (codes "address", Some (address_text row.index.address))
    ∷ (codes "port", Some (number row.index.port))
    ∷ (codes "ports", Some (rows (map number (ports_of_set row.ports)))) ∷ []

abbrev pub static_members : StaticRow → Members
static_members row = members_from (static_entries row)

abbrev pub static_data : StaticRow → Data
static_data row = table (static_members row)

-- ---- the whole

abbrev pub bridge_entry : BridgeValues → BridgeKey → List ℕ × Option Data
bridge_entry values key =
    (bridge_key_text key, unless (bridge_value opening_bridge key) (bridge_value values key))

abbrev pub bridge_entries : BridgeValues → List (List ℕ × Option Data)
bridge_entries values =
    bridge_entry values bridge.Priority ∷ bridge_entry values bridge.MaxAge ∷ bridge_entry values bridge.Hello
    ∷ bridge_entry values bridge.ForwardDelay ∷ bridge_entry values bridge.Version
    ∷ bridge_entry values bridge.HoldCount ∷ bridge_entry values bridge.Aging ∷ []

abbrev pub with_bridge : BridgeValues → Members → Members
with_bridge values ms = with_entries (bridge_entries values) ms

-- a bridge of this address with these settings: the address, and what differs from the opening
abbrev pub settings_entries : Mac → Kept → List (List ℕ × Option Data)
settings_entries address k =
    (codes "address", Some (address_text address))
    ∷ bridge_entry k.bridge bridge.Priority ∷ bridge_entry k.bridge bridge.MaxAge ∷ bridge_entry k.bridge bridge.Hello
    ∷ bridge_entry k.bridge bridge.ForwardDelay ∷ bridge_entry k.bridge bridge.Version
    ∷ bridge_entry k.bridge bridge.HoldCount ∷ bridge_entry k.bridge bridge.Aging
    ∷ (codes "port", rows_if_any (map port_data (changed_ports k.ports)))
    ∷ (codes "static", rows_if_any (map static_data k.statics)) ∷ []

-- its table
abbrev pub settings_members : Mac → Kept → Members
settings_members address k = members_from (settings_entries address k)
