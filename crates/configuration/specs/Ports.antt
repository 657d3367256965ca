-- The ports of a configuration.
use Rattle.std.specs.Prelude.{◌≡◌, ℕ, ◌+◌, ◌&&◌, Bool, codes, nat_le, is_some, if◌then◌else◌, List, length, Option, Some, None}
use Rattle.std.specs.List.{list_all}
use Rattle.rstp_settings.specs.Config.{is_speed}
use Rattle.rstp_settings.specs.declared.config.PortConfig.{PortConfig}
use Rattle.rstp_settings.specs.declared.settings.TheConstants.{MAX_PORTS}
use Rattle.toml.specs.Data.{Data, Members, get_member, as_table}
use Rattle.policy_text.specs.Keys.{key_count, bool_at, array_at}
use Rattle.policy_text.specs.Reading.{AreRows, ◌>=>◌}
use Rattle.configuration.specs.declared.configuration.Port.{Port}
use Rattle.rstp_settings.specs.declared.config.TheConstants.{MAX_IFINDEX}
use Rattle.configuration.specs.Numbers.{number_at}
use Rattle.configuration.specs.Sockets.{IsOptional, IsSocket, count_at}

abbrev pub if_speed : ℕ → Option ℕ
if_speed n = if is_speed n then Some n else None

abbrev pub ifindex_at : Members → Option ℕ
ifindex_at ms = number_at (codes "ifindex") 1 MAX_IFINDEX ms

abbrev pub speed_at : Members → Option ℕ
speed_at ms = number_at (codes "speed") 10 1000 ms >=> if_speed

abbrev pub full_at : Members → Option Bool
full_at ms = bool_at (codes "full") ms

-- what is fixed of a port
abbrev pub port_config_of : Members → Option PortConfig
port_config_of ms =
    ifindex_at ms >=> (λ ifindex. speed_at ms >=> (λ speed. full_at ms >=> (λ full.
    Some (record { ifindex = ifindex; speed = speed; full = full }))))

-- the keys of a port: three, and `listen` and `peer` where they are there
abbrev pub port_keys : Members → ℕ
port_keys ms = 3 + count_at (codes "listen") ms + count_at (codes "peer") ms

-- the table says this port, and has no other key
pub record IsPort (ms : Members) (port : Port) : Type 0 where
  pub config : port_config_of ms ≡ Some port.config
  pub listen : IsOptional IsSocket (get_member (codes "listen") ms) port.listen
  pub peer : IsOptional IsSocket (get_member (codes "peer") ms) port.peer
  pub keys : key_count ms ≡ port_keys ms

abbrev pub SaysPort : Option Members → Port → Type 0
SaysPort None port = ⊥
SaysPort (Some ms) port = IsPort ms port

-- the value is a table that says this port
abbrev pub IsPortRow : Data → Port → Type 0
IsPortRow d port = SaysPort (as_table d) port

-- the value says this port, or none
abbrev pub port_says : Data → Option Port → Type 0
port_says d (Some port) = IsPortRow d port
port_says d None = (port : Port) → ¬ IsPortRow d port

abbrev pub is_table : Data → Bool
is_table d = is_some (as_table d)

-- these elements, if they are 1 to 32 and each is a table
abbrev pub if_tables : List Data → Option (List Data)
if_tables ds = if nat_le 1 (length ds) && nat_le (length ds) MAX_PORTS && list_all is_table ds then Some ds else None

-- the array of tables under `port`
abbrev pub port_rows : Members → Option (List Data)
port_rows ms = array_at (codes "port") ms >=> if_tables

-- the table says these ports
pub record ArePorts (ms : Members) (ports : List Port) : Type 0 where
  pub rows : List Data
  pub are : port_rows ms ≡ Some rows
  pub say : AreRows port_says rows ports
