-- The `[[port]]` tables of a text: what each says, and its first fault.
use Rattle.std.specs.Prelude.{ℕ, ◌+◌, ◌==◌, ◌||◌, not, Bool, bytes_eq, nat_lt, codes, if◌then◌else◌, List, [], ◌∷◌, map, find, Option, Some, None, Result, Ok, Err}
use Rattle.std.specs.Option.{ok_or}
use Rattle.std.specs.List.{range_with_len}
use Rattle.audit_core.specs.Text.{port_key_text}
use Rattle.rstp_settings.specs.Table.{opening_port}
use Rattle.rstp_settings.specs.Values.{port_value}
use Rattle.rstp_settings.specs.declared.key.PortKey.{PortKey}
use Rattle.rstp_settings.specs.declared.key.PortKey.TheVariants as port
use Rattle.rstp_settings.specs.declared.key.PortValues.{PortValues}
use Rattle.toml.specs.Data.{Data, Members, get_member, as_table}
use Rattle.policy_text.specs.Reading.{◌>=>◌}
use Rattle.settings_text.specs.Results.{◌>!>◌}
use Rattle.settings_text.specs.Numbers.{number_at, number_or, is_port_value, if_true}
use Rattle.settings_text.specs.KnownKeys.{are_keys}
use Rattle.settings_text.specs.declared.fault.PortRowKey.{PortRowKey}
use Rattle.settings_text.specs.declared.fault.PortRowKey.TheVariants.{Number, Order, Setting, Other}
use Rattle.settings_text.specs.declared.fault.SettingsFault.{SettingsFault}
use Rattle.settings_text.specs.declared.fault.SettingsFault.TheVariants.{BadPort}
use Rattle.settings_text.specs.declared.port_row.PortRow.{PortRow}

abbrev pub is_port_row_key : List ℕ → Bool
is_port_row_key key =
    bytes_eq key (codes "number") || bytes_eq key (port_key_text port.Priority)
    || bytes_eq key (port_key_text port.Enable) || bytes_eq key (port_key_text port.Cost)
    || bytes_eq key (port_key_text port.Migrate) || bytes_eq key (port_key_text port.Edge)
    || bytes_eq key (port_key_text port.PointToPoint)

-- the value that a table gives a port's setting: that under its word, or else that of the opening
abbrev pub port_setting : Members → PortKey → Result ℕ PortRowKey
port_setting ms key =
    ok_or (number_or (port_value opening_port key) (get_member (port_key_text key) ms) >=> if_true (is_port_value key))
    (Setting key)

abbrev pub port_settings : Members → Result PortValues PortRowKey
port_settings ms =
    port_setting ms port.Priority >!> (λ priority. port_setting ms port.Enable >!> (λ enable. port_setting ms port.Cost >!> (λ cost.
    port_setting ms port.Migrate >!> (λ migrate. port_setting ms port.Edge >!> (λ edge. port_setting ms port.PointToPoint >!> (λ point_to_point.
    Ok (record { priority = priority; enable = enable; cost = cost; migrate = migrate; edge = edge; point_to_point = point_to_point })))))))

-- the number of a port: of 1 to the count, and above that of the table before
abbrev pub port_number : ℕ → ℕ → Members → Result ℕ PortRowKey
port_number count before ms =
    ok_or (number_at (codes "number") 1 count ms) Number >!> (λ number.
    if nat_lt before number then Ok number else Err Order)

abbrev pub port_row_in : ℕ → ℕ → Members → Result PortRow PortRowKey
port_row_in count before ms =
    port_number count before ms >!> (λ number. port_settings ms >!> (λ values.
    if are_keys is_port_row_key ms then Ok (record { number = number; values = values }) else Err Other))

abbrev pub port_row : ℕ → ℕ → Data → Result PortRow PortRowKey
port_row count before d = ok_or (as_table d) Number >!> port_row_in count before

abbrev pub at_port : {A : Type 0} → ℕ → Result A PortRowKey → Result A SettingsFault
at_port place (Ok x) = Ok x
at_port place (Err key) = Err (BadPort place key)

-- the ports of tables of which the first is at this place, behind one of a port of this number; or the first
-- table at fault
abbrev pub port_rows : ℕ → ℕ → ℕ → List Data → Result (List PortRow) SettingsFault
port_rows count place before [] = Ok []
port_rows count place before (d ∷ ds) =
    at_port place (port_row count before d) >!> (λ row. port_rows count (place + 1) row.number ds >!> (λ rows.
    Ok (row ∷ rows)))

abbrev pub values_in : Option PortRow → PortValues
values_in (Some row) = row.values
values_in None = opening_port

-- the settings of a port: those of its table, or where it has none those of the opening
abbrev pub values_of : List PortRow → ℕ → PortValues
values_of rows port = values_in (find (λ row. row.number == port) rows)

abbrev pub ports_of : ℕ → List PortRow → List PortValues
ports_of count rows = map (λ n. values_of rows (n + 1)) (range_with_len 0 count)
