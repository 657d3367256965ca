-- What an object over a driver is to a registry.
use Rattle.std.specs.Prelude.{ℕ, List, map, Option, None}
use Rattle.setphase_core.specs.declared.column.Column.{Column}
use Rattle.setphase_core.specs.declared.column.Column.TheVariants as column
use Rattle.setphase_core.specs.declared.column.StpPort.TheVariants as stp_port
use Rattle.setphase_core.specs.declared.object.Reservation.{Reservation}
use Rattle.setphase_core.specs.Names.{row_of}
use Rattle.setphase_core.specs.Objects.{ObjectState}
use Rattle.object_list.specs.declared.object.Object.{Object}
use Rattle.object_list.specs.declared.object.Object.TheVariants as object

-- The column that an object shows.
abbrev pub column_of : {L : Type 0} → Object L → Column
column_of (object.Plain o) = o.which.0
column_of (object.Enable o) = column.StpPort stp_port.Enable

-- What it has reserved.
abbrev pub reserved_of : {L : Type 0} → Object L → List Reservation
reserved_of (object.Plain o) = o.reserved
reserved_of (object.Enable o) = o.reserved

-- How often its driver has failed, where it has one.
abbrev pub failures_of : {L : Type 0} → (L → ℕ) → Object L → ℕ
failures_of failures (object.Enable o) = failures o.driver
failures_of failures other = 0

-- What is left of its driver's plan, where it has a driver that takes plans.
abbrev pub plan_of : {L : Type 0} → (L → Option ℕ) → Object L → Option ℕ
plan_of plan_left (object.Enable o) = plan_left o.driver
plan_of plan_left other = None

abbrev pub state_of : {L : Type 0} → (L → ℕ) → (L → Option ℕ) → Object L → ObjectState
state_of failures plan_left o = record {
  row = row_of (column_of o);
  reserved = reserved_of o;
  failures = failures_of failures o;
  plan = plan_of plan_left o;
}

-- What objects are to a registry.
abbrev pub states_of : {L : Type 0} → (L → ℕ) → (L → Option ℕ) → List (Object L) →
    List ObjectState
states_of failures plan_left objects = map (state_of failures plan_left) objects
