-- The settings that a table, or a text, says, or its first fault: of its address, of the bridge's settings, of
-- the timers together, of the ports, of the static rows, of other keys.
use Rattle.std.specs.Prelude.{◌≡◌, ◌⊎◌, ℕ, ◌||◌, Bool, bytes_eq, nat_le, codes, if◌then◌else◌, List, [], length, Option, Some, None, is_none, Result, Ok, Err}
use Rattle.std.specs.Option.{ok_or}
use Rattle.audit_core.specs.Text.{bridge_key_text}
use Rattle.frame_core.specs.declared.mac.Mac.{Mac}
use Rattle.frame_core.specs.Octets.{same_mac}
use Rattle.rstp_settings.specs.Values.{bridge_value}
use Rattle.rstp_settings.specs.declared.key.BridgeKey.{BridgeKey}
use Rattle.rstp_settings.specs.declared.key.BridgeKey.TheVariants as bridge
use Rattle.rstp_settings.specs.declared.key.BridgeValues.{BridgeValues}
use Rattle.rstp_settings.specs.declared.key.PortValues.{PortValues}
use Rattle.fdb_core.specs.declared.static_row.StaticRow.{StaticRow}
use Rattle.bridge_core.specs.Bridge.{BridgeState, address_of, port_count}
use Rattle.setphase_core.specs.declared.limits.TheConstants.{MAX_STATIC_ROWS}
use Rattle.toml.specs.Data.{Data, Members, get_member}
use Rattle.toml.specs.Parse.{parse_document}
use Rattle.policy_text.specs.Keys.{array_at}
use Rattle.policy_text.specs.Reading.{◌>=>◌}
use Rattle.settings_text.specs.Results.{◌>!>◌}
use Rattle.settings_text.specs.Numbers.{number_or, is_bridge_value, if_true}
use Rattle.settings_text.specs.Settings.{Kept, opening_bridge, timers_agree}
use Rattle.settings_text.specs.KnownKeys.{are_keys}
use Rattle.settings_text.specs.PortRows.{port_rows, ports_of}
use Rattle.settings_text.specs.StaticRows.{address_at, static_rows}
use Rattle.settings_text.specs.declared.fault.SettingsFault.{SettingsFault}
use Rattle.settings_text.specs.declared.fault.SettingsFault.TheVariants.{BadText, BadAddress, OtherBridge, BadSetting, BadTimers, BadPorts, BadStatics, OtherKey}

abbrev pub is_settings_key : List ℕ → Bool
is_settings_key key =
    bytes_eq key (codes "address") || bytes_eq key (bridge_key_text bridge.Priority)
    || bytes_eq key (bridge_key_text bridge.MaxAge) || bytes_eq key (bridge_key_text bridge.Hello)
    || bytes_eq key (bridge_key_text bridge.ForwardDelay) || bytes_eq key (bridge_key_text bridge.Version)
    || bytes_eq key (bridge_key_text bridge.HoldCount) || bytes_eq key (bridge_key_text bridge.Aging)
    || bytes_eq key (codes "port") || bytes_eq key (codes "static")

-- the address is the bridge's own
abbrev pub own_address : BridgeState → Members → Result Mac SettingsFault
own_address b ms =
    ok_or (address_at ms) BadAddress >!> (λ address.
    ok_or (if_true (same_mac (address_of b)) address) OtherBridge)

-- the value that a table gives a setting of the bridge: that under its word, or else that of the opening
abbrev pub bridge_setting : Members → BridgeKey → Result ℕ SettingsFault
bridge_setting ms key =
    ok_or (number_or (bridge_value opening_bridge key) (get_member (bridge_key_text key) ms) >=> if_true (is_bridge_value key))
    (BadSetting key)

abbrev pub bridge_settings : Members → Result BridgeValues SettingsFault
bridge_settings ms =
    bridge_setting ms bridge.Priority >!> (λ priority. bridge_setting ms bridge.MaxAge >!> (λ max_age. bridge_setting ms bridge.Hello >!> (λ hello.
    bridge_setting ms bridge.ForwardDelay >!> (λ forward_delay. bridge_setting ms bridge.Version >!> (λ version.
    bridge_setting ms bridge.HoldCount >!> (λ hold_count. bridge_setting ms bridge.Aging >!> (λ aging.
    ok_or (if_true timers_agree (record { priority = priority; max_age = max_age; hello = hello; forward_delay = forward_delay; version = version; hold_count = hold_count; aging = aging }))
    BadTimers)))))))

-- the values of the array under a key: none where there is no such key
abbrev pub values_at : List ℕ → Members → Option (List Data)
values_at key ms = if is_none (get_member key ms) then Some [] else array_at key ms

abbrev pub port_settings_in : ℕ → Members → Result (List PortValues) SettingsFault
port_settings_in count ms =
    ok_or (values_at (codes "port") ms) BadPorts >!> port_rows count 0 0 >!> (λ rows. Ok (ports_of count rows))

abbrev pub are_few : List Data → Bool
are_few ds = nat_le (length ds) MAX_STATIC_ROWS

-- the values of the static rows, of which there are not too many
abbrev pub static_values : Members → Result (List Data) SettingsFault
static_values ms = ok_or (values_at (codes "static") ms >=> if_true are_few) BadStatics

abbrev pub statics_in : BridgeState → Members → Result (List StaticRow) SettingsFault
statics_in b ms =
    static_values ms >!> static_rows b 0 []

-- the settings of the bridge that a table says, or its first fault
abbrev pub read_settings : BridgeState → Members → Result Kept SettingsFault
read_settings b ms =
    own_address b ms >!> (λ address. bridge_settings ms >!> (λ bridge. port_settings_in (port_count b) ms >!> (λ ports.
    statics_in b ms >!> (λ statics.
    if are_keys is_settings_key ms then Ok (record { bridge = bridge; ports = ports; statics = statics }) else Err OtherKey))))

-- those that a text says, which is to be a TOML document
abbrev pub read_text : BridgeState → List ℕ → Result Kept SettingsFault
read_text b text = ok_or (parse_document text) BadText >!> read_settings b
