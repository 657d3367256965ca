-- The `[[static]]` tables of a text: what each says, and its first fault.
use Rattle.std.specs.Prelude.{ℕ, ◌+◌, ◌==◌, ◌||◌, Bool, true, false, bytes_eq, codes, if◌then◌else◌, List, [], ◌∷◌, map, Option, Some, None, Result, Ok, Err}
use Rattle.std.specs.Option.{ok_or}
use Rattle.std.specs.Result.{result_ok}
use Rattle.std.specs.List.{range_with_len, list_any, list_all}
use Rattle.std.specs.Cmp.Lexicographic.{slice_cmp}
use Rattle.std.specs.Ordering.{nat_cmp, is_lt}
use Rattle.hex.specs.Hex.{decode_sized}
use Rattle.frame_core.specs.declared.mac.Mac.{Mac}
use Rattle.fdb_core.specs.declared.port_set.PortSet.{PortSet}
use Rattle.fdb_core.specs.declared.port_set.TheConstants.{MAX_SET_PORTS}
use Rattle.fdb_core.specs.declared.static_row.StaticIndex.{StaticIndex}
use Rattle.fdb_core.specs.declared.static_row.StaticRow.{StaticRow}
use Rattle.fdb_core.specs.Statics.{numbers_of}
use Rattle.bridge_core.specs.Bridge.{BridgeState, port_count}
use Rattle.setphase_core.specs.Writing.{may_have_row}
use Rattle.toml.specs.Data.{Data, Members, as_table, as_integer}
use Rattle.policy_text.specs.Keys.{string_at, array_at}
use Rattle.policy_text.specs.Reading.{◌>=>◌}
use Rattle.settings_text.specs.Results.{◌>!>◌}
use Rattle.settings_text.specs.KnownKeys.{are_keys}
use Rattle.settings_text.specs.Numbers.{number_at, number_between, if_true}
use Rattle.settings_text.specs.declared.fault.StaticRowKey.{StaticRowKey}
use Rattle.settings_text.specs.declared.fault.StaticRowKey.TheVariants.{Address, Port, Order, Ports, Other}
use Rattle.settings_text.specs.declared.fault.SettingsFault.{SettingsFault}
use Rattle.settings_text.specs.declared.fault.SettingsFault.TheVariants.{BadStatic}

abbrev pub is_static_row_key : List ℕ → Bool
is_static_row_key key =
    bytes_eq key (codes "address") || bytes_eq key (codes "port") || bytes_eq key (codes "ports")

-- the address that 12 hexadecimal digits write, in either case
abbrev pub address_in : List ℕ → Option Mac
address_in text = result_ok (decode_sized text 6) >=> (λ octets. Some (record { 0 = octets }))

abbrev pub address_at : Members → Option Mac
address_at ms = string_at (codes "address") ms >=> address_in

-- an address of which the bridge may have a static row, and one of its ports or 0 for all
abbrev pub static_index : BridgeState → Members → Result StaticIndex StaticRowKey
static_index b ms =
    ok_or (address_at ms) Address >!> (λ address.
    ok_or (number_at (codes "port") 0 (port_count b) ms) Port >!> (λ port.
    ok_or (if_true (may_have_row b) (record { address = address; port = port })) Address))

-- an index that is above that of the table before, of which these are the numbers
abbrev pub rising_index : List ℕ → StaticIndex → Result StaticIndex StaticRowKey
rising_index before index =
    if is_lt (slice_cmp nat_cmp before (numbers_of index)) then Ok index else Err Order

-- the number of a port of so many
abbrev pub listed_port : ℕ → Data → Option ℕ
listed_port count d = as_integer d >=> number_between 1 count

abbrev pub is_listed : Option ℕ → Bool
is_listed None = false
is_listed (Some n) = true

-- a value that is this number
abbrev pub lists_port : ℕ → Option ℕ → Bool
lists_port port None = false
lists_port port (Some n) = n == port

-- the set of the ports whose numbers these values are
abbrev pub set_of_listed : ℕ → List Data → PortSet
set_of_listed count ds = record {
  0 = map (λ n. list_any (λ d. lists_port (n + 1) (listed_port count d)) ds) (range_with_len 0 MAX_SET_PORTS);
}

abbrev pub if_listed : ℕ → List Data → Option PortSet
if_listed count ds =
    if list_all (λ d. is_listed (listed_port count d)) ds then Some (set_of_listed count ds) else None

abbrev pub static_ports : ℕ → Members → Result PortSet StaticRowKey
static_ports count ms = ok_or (array_at (codes "ports") ms >=> if_listed count) Ports

abbrev pub static_row_in : BridgeState → List ℕ → Members → Result StaticRow StaticRowKey
static_row_in b before ms =
    static_index b ms >!> rising_index before >!> (λ index. static_ports (port_count b) ms >!> (λ ports.
    if are_keys is_static_row_key ms then Ok (record { index = index; made = true; ports = ports }) else Err Other))

abbrev pub static_row : BridgeState → List ℕ → Data → Result StaticRow StaticRowKey
static_row b before d = ok_or (as_table d) Address >!> static_row_in b before

abbrev pub at_static : {A : Type 0} → ℕ → Result A StaticRowKey → Result A SettingsFault
at_static place (Ok x) = Ok x
at_static place (Err key) = Err (BadStatic place key)

-- the rows of tables of which the first is at this place, behind one with these numbers; or the first table
-- at fault
abbrev pub static_rows : BridgeState → ℕ → List ℕ → List Data → Result (List StaticRow) SettingsFault
static_rows b place before [] = Ok []
static_rows b place before (d ∷ ds) =
    at_static place (static_row b before d) >!> (λ row. static_rows b (place + 1) (numbers_of row.index) ds >!> (λ rows.
    Ok (row ∷ rows)))
