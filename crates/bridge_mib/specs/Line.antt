-- What contracts see of a driver that fails by plan, and of an object over a driver.
use Rattle.std.specs.Prelude.{ℕ, ◌==◌, Bool, false, List, Option}
use Rattle.std.specs.List.{AllByRecursion}
use Rattle.rstp_settings.specs.declared.key.Key.TheVariants as key
use Rattle.rstp_settings.specs.declared.key.PortKey.TheVariants as port
use Rattle.setting_keys.specs.declared.SettingKey.{SettingKey}
use Rattle.setting_keys.specs.declared.SettingKey.TheVariants as setting
use Rattle.setting_keys.specs.declared.SettingValue.{SettingValue}
use Rattle.setting_keys.specs.declared.SettingValue.TheVariants.{Number, Ports, Mask}
use Rattle.setphase_core.specs.declared.object.Reservation.{Reservation}
use Rattle.setphase_core.specs.declared.column.Column.TheVariants as column
use Rattle.setphase_core.specs.declared.column.StpPort.TheVariants as stp_port
use Rattle.setphase_core.specs.Names.{row_of}
use Rattle.setphase_core.specs.Objects.{ObjectState}
use Rattle.setphase_core.specs.Settings.{IsLine}

-- Its plan as a number, whose bit k - 1 says that the k-th call from now fails, and how often it
-- has failed.
pub record Plan : Type 0 where
  pub calls : ℕ
  pub failed : ℕ

-- The setting that dot1dStpPortEnable of port n shows and writes.
abbrev pub port_enable : ℕ → SettingKey
port_enable n = setting.Bridge (key.Port n port.Enable)

-- All that is reserved are such settings.
abbrev pub AreEnables : List Reservation → Type 0
AreEnables rs = AllByRecursion (λ r. IsLine r.key) rs

-- A value of it says that the port is on: enabled (RFC 4188).
abbrev pub is_enabled : SettingValue → Bool
is_enabled (Number n) = n == 1
is_enabled (Ports s) = false
is_enabled (Mask m) = false

-- An object over a driver: the driver, and what it has reserved for the Set that is being made, by
-- place.
pub record Driven (L : Type 0) : Type 0 where
  pub driver : L
  pub reserved : List Reservation

-- What it is to a registry, by how often its driver has failed, and what is left of its driver's
-- plan.
abbrev pub state_of : {L : Type 0} → (L → ℕ) → (L → Option ℕ) → Driven L → ObjectState
state_of failures plan_left o = record {
  row = row_of (column.StpPort stp_port.Enable);
  reserved = o.reserved;
  failures = failures o.driver;
  plan = plan_left o.driver;
}
