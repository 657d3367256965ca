-- What a managed object is, as plain data, and what a Set does to it (RFC 3416, 4.2.5).
use Rattle.std.specs.Prelude.{◌≡◌, ℕ, ◌+◌, ◌<◌, Bool, true, false, List, [], ◌∷◌, ◌++◌, length, slice_get, slice_set, Option, Some, None}
use Rattle.bridge_core.specs.Statics.{is_made, allowed, HasPlaceFrom}
use Rattle.setting_keys.specs.declared.SettingKey.{SettingKey}
use Rattle.setting_keys.specs.declared.SettingKey.TheVariants.{Made, Allowed}
use Rattle.setting_keys.specs.declared.SettingValue.{SettingValue}
use Rattle.setting_keys.specs.declared.SettingValue.TheVariants.{Number, Ports}
use Rattle.setphase_core.specs.declared.column.Column.{Column}
use Rattle.setphase_core.specs.declared.object.Reservation.{Reservation}
use Rattle.setphase_core.specs.declared.object.Slot.{Slot}
use Rattle.setphase_core.specs.declared.world.World.{World}
use Rattle.setphase_core.specs.Plans.{plan_after_call, plan_after_arm, FollowsPlan}
use Rattle.setphase_core.specs.Settings.{HasSetting, IsSettingInRange, made_by}

-- There is memory to give a setting a value: where that brings in a static row, there is a place for
-- it among those that the static table is sure of. Any other put takes no memory.
abbrev pub HasSpace : World → SettingKey → SettingValue → Type 0
HasSpace w (Made i) (Number n) = HasPlaceFrom w.bridge i (made_by n) (allowed w.bridge i)
HasSpace w (Allowed i) (Ports s) = HasPlaceFrom w.bridge i (is_made w.bridge i) s
HasSpace w k v = Unit {0}

-- An object's row: its name, and what it shows.
pub record ObjectRow : Type 0 where
  pub prefix : List ℕ
  pub column : Column

-- Its row, what it has reserved for the Set that is being made, by place, how often its device has
-- failed, and what is left of the plan of its device, where it has one that takes plans.
pub record ObjectState : Type 0 where
  pub row : ObjectRow
  pub reserved : List Reservation
  pub failures : ℕ
  pub plan : Option ℕ

-- What stands at the place of a slot before its commit, and after it.
abbrev pub pending_reservation : Slot → Reservation
pending_reservation slot = record { key = slot.key; value = slot.value; old = None }

abbrev pub committed_reservation : Slot → SettingValue → Reservation
committed_reservation slot old = record { key = slot.key; value = slot.value; old = Some old }

-- The same, before or after.
abbrev pub reservation_of : Slot → Option SettingValue → Reservation
reservation_of slot old = record { key = slot.key; value = slot.value; old = old }

-- The object with a slot more.
abbrev pub reserve : ObjectState → Slot → ObjectState
reserve o slot = record o { reserved = o.reserved ++ pending_reservation slot ∷ [] }

-- The object whose device was called once more, and did not fail.
abbrev pub after_call : ObjectState → ObjectState
after_call o = record o { plan = plan_after_call o.plan }

-- The object whose slot was committed over an old value.
abbrev pub object_after_commit : ObjectState → Slot → SettingValue → ObjectState
object_after_commit o slot old = record o {
  reserved = slice_set o.reserved slot.place (committed_reservation slot old);
  plan = plan_after_call o.plan;
}

-- The object with nothing reserved.
abbrev pub object_after_release : ObjectState → ObjectState
object_after_release o = record o { reserved = [] }

-- The object whose device was called once more, and failed.
abbrev pub object_after_failure : ObjectState → ObjectState
object_after_failure o =
    record o { failures = o.failures + 1; plan = plan_after_call o.plan }

-- The object whose device was called once more, and failed or not.
abbrev pub object_called : Bool → ObjectState → ObjectState
object_called false o = after_call o
object_called true o = object_after_failure o

-- Whether the next call of the device fails is what its plan says, where it has one.
abbrev pub IsByPlan : ObjectState → Bool → Type 0
IsByPlan o fails = FollowsPlan o.plan o.failures fails

-- The object whose device was armed with a plan.
abbrev pub object_after_arm : ℕ → ObjectState → ObjectState
object_after_arm plan o = record o { plan = plan_after_arm o.plan plan }

-- The slot is reserved, and its setting may get its value. A slot whose commit was undone is
-- reserved still.
pub record IsReserved (w : World) (o : ObjectState) (slot : Slot) : Type 0 where
  pub key : HasSetting w slot.key
  pub value : IsSettingInRange w slot.key slot.value
  pub place : slot.place < length o.reserved
  pub old : Option SettingValue
  pub stands : slice_get o.reserved slot.place ≡ Some (reservation_of slot old)

-- There is memory to give the setting of a committed slot its old value back.
abbrev pub HasSpaceBack : World → ObjectState → Slot → Type 0
HasSpaceBack w o slot =
    (old : SettingValue) → slice_get o.reserved slot.place ≡ Some (committed_reservation slot old)
    → HasSpace w slot.key old

-- The slot was committed over an old value, which its setting may get again.
pub record IsCommitted (w : World) (o : ObjectState) (slot : Slot) (old : SettingValue) :
    Type 0 where
  pub key : HasSetting w slot.key
  pub value : IsSettingInRange w slot.key old
  pub place : slot.place < length o.reserved
  pub stands : slice_get o.reserved slot.place ≡ Some (committed_reservation slot old)
