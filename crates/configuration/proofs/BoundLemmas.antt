-- A configuration stands within its bounds.
use Rattle.std.proofs.Common.{◌≡◌, ℕ, ◌≤◌, Bool, true, false, ◌&&◌, if◌then◌else◌, nat_le, List, [], ◌∷◌, length, suc, codes, Option, Some, None, option_and_then, refl, sym, ap, ◌∙◌}
use Rattle.std.specs.List.{list_all}
use Rattle.std.proofs.lemmas.Bool.{and_parts, leb-true}
use Rattle.std.specs.Result.{result_ok}
use Rattle.hex.specs.Hex.{decode_sized}
use Rattle.frame_core.specs.declared.mac.Mac.{Mac}
use Rattle.frame_core.specs.Octets.{is_group}
use Rattle.rstp_settings.specs.declared.config.PortConfig.{PortConfig}
use Rattle.rstp_settings.specs.declared.config.TheConstants.{MAX_IFINDEX}
use Rattle.rstp_settings.specs.declared.settings.TheConstants.{MAX_PORTS}
use Rattle.toml.specs.Data.{Data, Members, as_table}
use Rattle.policy_text.specs.Keys.{string_at, bool_at, array_at}
use Rattle.policy_text.specs.Reading.{AreRows}
use Rattle.configuration.specs.declared.configuration.Configuration.{Configuration}
use Rattle.configuration.specs.declared.configuration.Port.{Port}
use Rattle.configuration.specs.Address.{mac_of, station, address_of}
use Rattle.configuration.specs.Bounds.{IsWithinBounds}
use Rattle.configuration.specs.Configurations.{IsConfiguration}
use Rattle.configuration.specs.Numbers.{number_at}
use Rattle.rstp_settings.specs.Config.{is_speed}
use Rattle.configuration.specs.Ports.{if_speed, speed_at, port_config_of, SaysPort, port_says, is_table, if_tables, port_rows}

-- a step that gave a value had one to go on from
pub stepped : {A B : Type 0} (o : Option A) (f : A → Option B) (b : B) → option_and_then f o ≡ Some b → (a : A) × (o ≡ Some a) × (f a ≡ Some b)
stepped None f b e = absurd cc
stepped (Some a) f b e = (a, refl, e)

-- a choice that gave a value
then_some : {A : Type 0} (test : Bool) (x y : A) → (if test then Some x else None) ≡ Some y → (test ≡ true) × (x ≡ y)
then_some true x y e = (refl, cc)
then_some false x y e = absurd cc

else_some : {A : Type 0} (test : Bool) (x y : A) → (if test then None else Some x) ≡ Some y → (test ≡ false) × (x ≡ y)
else_some true x y e = absurd cc
else_some false x y e = (refl, cc)

-- the address is that of one station
station_single : (octets : List ℕ) (a : Mac) → station octets ≡ Some a → is_group a ≡ false
station_single octets a e =
    let here : Mac = record { 0 = octets } in
    let chosen = else_some (is_group here) here a e in
    sym (ap is_group chosen.1) ∙ chosen.0

mac_single : (text : List ℕ) (a : Mac) → mac_of text ≡ Some a → is_group a ≡ false
mac_single text a e = let step = stepped (result_ok (decode_sized text 6)) station a e in station_single step.0 a step.2

address_single : (ms : Members) (a : Mac) → address_of ms ≡ Some a → is_group a ≡ false
address_single ms a e = let step = stepped (string_at (codes "address") ms) mac_of a e in mac_single step.0 a step.2

-- a speed that was read is one that a port may have
speed_kept : (ms : Members) (n : ℕ) → speed_at ms ≡ Some n → is_speed n ≡ true
speed_kept ms n e =
    let step = stepped (number_at (codes "speed") 10 1000 ms) if_speed n e in
    let chosen = then_some (is_speed step.0) step.0 n step.2 in
    sym (ap is_speed chosen.1) ∙ chosen.0

same_some : {A : Type 0} (x y : A) → Some x ≡ Some y → x ≡ y
same_some x y e = cc

config_speed : (ms : Members) (p : PortConfig) → port_config_of ms ≡ Some p → is_speed p.speed ≡ true
config_speed ms p e =
    let first = stepped (number_at (codes "ifindex") 1 MAX_IFINDEX ms) _ p e in
    let second = stepped (speed_at ms) _ p first.2 in
    let third = stepped (bool_at (codes "full") ms) _ p second.2 in
    let made : PortConfig = record { ifindex = first.0; speed = second.0; full = third.0 } in
    let same : made ≡ p = same_some made p third.2 in
    sym (ap (λ (q : PortConfig). is_speed q.speed) same) ∙ speed_kept ms second.0 second.1

port_speed : (o : Option Members) (port : Port) → SaysPort o port → is_speed port.config.speed ≡ true
port_speed None port h = absurd h
port_speed (Some ms) port h = config_speed ms port.config h.config

-- each port has one
speeds_kept : (ds : List Data) (ports : List Port) → AreRows port_says ds ports → list_all (λ port. is_speed port.config.speed) ports ≡ true
speeds_kept [] [] h = refl
speeds_kept [] (p ∷ ports) h = absurd h
speeds_kept (d ∷ ds) [] h = absurd h
speeds_kept (d ∷ ds) (p ∷ ports) h = rw (port_speed (as_table d) p h.0, speeds_kept ds ports h.1)

-- there are as many ports as rows
as_many : (ds : List Data) (ports : List Port) → AreRows port_says ds ports → length ds ≡ length ports
as_many [] [] h = refl
as_many [] (p ∷ ports) h = absurd h
as_many (d ∷ ds) [] h = absurd h
as_many (d ∷ ds) (p ∷ ports) h = ap suc (as_many ds ports h.1)

-- which are 1 to 32
rows_few : (ms : Members) (rows : List Data) → port_rows ms ≡ Some rows → (1 ≤ length rows) × (length rows ≤ MAX_PORTS)
rows_few ms rows e =
    let step = stepped (array_at (codes "port") ms) if_tables rows e in
    let ds = step.0 in
    let chosen = then_some (nat_le 1 (length ds) && nat_le (length ds) MAX_PORTS && list_all is_table ds) ds rows step.2 in
    let bounds = and_parts _ _ (and_parts _ _ chosen.0).0 in
    let long = ap length chosen.1 in
    (rw (← long) (leb-true _ _ bounds.0), rw (← long) (leb-true _ _ bounds.1))

pub within_bounds : (ms : Members) (c : Configuration) → IsConfiguration ms c → IsWithinBounds c
within_bounds ms c is =
    let few = rows_few ms is.ports.rows is.ports.are in
    let many = as_many is.ports.rows c.ports.items is.ports.say in
    record {
      station = address_single ms c.address is.address;
      least = rw (← many) few.0;
      most = rw (← many) few.1;
      speeds = speeds_kept is.ports.rows c.ports.items is.ports.say;
    }
