-- One Set while it is being made: what is staged, and what stands between the calls.
use Rattle.std.specs.Prelude.{◌≡◌, ℕ, ◌+◌, ◌<◌, ◌≤◌, ◌≢◌, Bool, true, false, List, [], ◌∷◌, ◌++◌, if◌then◌else◌, map, filter, length, reverse, slice_index_or, slice_set, take, Option, Some, None}
use Rattle.rstp_settings.specs.declared.key.Key.TheVariants as key
use Rattle.rstp_settings.specs.declared.key.BridgeKey.TheVariants as bridge
use Rattle.setting_keys.specs.declared.SettingKey.{SettingKey}
use Rattle.setting_keys.specs.declared.SettingKey.TheVariants.{Bridge}
use Rattle.setting_keys.specs.declared.SettingValue.{SettingValue}
use Rattle.setting_keys.specs.declared.SettingValue.TheVariants.{Number}
use Rattle.setphase_core.specs.declared.world.World.{World}
use Rattle.setphase_core.specs.declared.column.Base.TheVariants as base
use Rattle.setphase_core.specs.declared.column.Column.TheVariants as column
use Rattle.setphase_core.specs.declared.object.Assignment.{Assignment}
use Rattle.setphase_core.specs.declared.staging.Staged.{Staged}
use Rattle.setphase_core.specs.Settings.{setting, HasSetting, IsSettingInRange, is_static}
use Rattle.setphase_core.specs.Objects.{ObjectState, IsReserved, IsCommitted, object_called, IsByPlan}
use Rattle.setphase_core.specs.Together.{assign}
use Rattle.setphase_core.specs.Outcomes.{has_key}

-- read where no object is
abbrev pub no_object : ObjectState
no_object = record {
  row = record { prefix = []; column = column.Base base.BridgeAddress };
  reserved = [];
  failures = 0;
  plan = None;
}

-- The object at a place.
abbrev pub object_at : List ObjectState → ℕ → ObjectState
object_at os p = slice_index_or os p no_object

abbrev pub no_entry : Staged
no_entry = record {
  object = 0;
  slot = record { key = Bridge (key.Bridge bridge.Priority); value = Number 0; place = 0 };
  number = 0;
}

abbrev pub entry_at : List Staged → ℕ → Staged
entry_at es k = slice_index_or es k no_entry

-- What the slots write.
abbrev pub assignment_of_entry : Staged → Assignment
assignment_of_entry e = record { key = e.slot.key; value = e.slot.value }

abbrev pub assignments_of : List Staged → List Assignment
assignments_of es = map assignment_of_entry es

-- No assignment is to this setting.
abbrev pub Without : SettingKey → List Assignment → Type 0
Without k [] = Unit {0}
Without k (a ∷ ps) = (a.key ≢ k) × Without k ps

-- No two assignments are to one setting.
abbrev pub IsDistinct : List Assignment → Type 0
IsDistinct [] = Unit {0}
IsDistinct (a ∷ ps) = Without a.key ps × IsDistinct ps

-- The world has the setting of an assignment, which may have the value there.
pub record IsLegal (w : World) (a : Assignment) : Type 0 where
  pub key : HasSetting w a.key
  pub value : IsSettingInRange w a.key a.value

-- The same of all of them.
abbrev pub AreLegal : World → List Assignment → Type 0
AreLegal w [] = Unit {0}
AreLegal w (a ∷ ps) = IsLegal w a × AreLegal w ps

-- How many assignments are to settings of static rows: each brings in one row at most.
abbrev pub static_count : List Assignment → ℕ
static_count [] = 0
static_count (a ∷ ps) = (if is_static a.key then 1 else 0) + static_count ps

-- There is memory for all static rows that assignments may bring in.
abbrev pub HasSpaceFor : World → List Assignment → Type 0
HasSpaceFor w ps =
    0 < static_count ps
    → length w.bridge.statics.rows + static_count ps ≤ w.bridge.statics.places

-- The slot of an entry is reserved at its object.
pub record StandsReserved (w : World) (os : List ObjectState) (e : Staged) : Type 0 where
  pub within : e.object < length os
  pub reserved : IsReserved w (object_at os e.object) e.slot

-- The slot of an entry was committed at its object, over a value that its setting may get again.
pub record StandsUndoable (w : World) (os : List ObjectState) (e : Staged) : Type 0 where
  pub within : e.object < length os
  pub before : SettingValue
  pub committed : IsCommitted w (object_at os e.object) e.slot before

-- The same, over the value that its setting has in a world of before, where the setting is and may
-- have the new value.
pub record StandsCommitted (before w : World) (os : List ObjectState) (e : Staged) :
    Type 0 where
  pub had : IsLegal before (assignment_of_entry e)
  pub within : e.object < length os
  pub committed : IsCommitted w (object_at os e.object) e.slot (setting before e.slot.key)

-- A Set is under way: so many variables passed their tests, and so many entries are committed, the
-- first ones. No two entries write one setting, each is reserved at its object, and each that is
-- committed can be undone.
pub record IsUnderWay (w : World) (os : List ObjectState) (es : List Staged)
    (tested committed : ℕ) : Type 0 where
  pub few : length es ≤ tested
  pub counted : committed ≤ length es
  pub distinct : IsDistinct (assignments_of es)
  pub reserved : (k : ℕ) → k < length es → StandsReserved w os (entry_at es k)
  pub undoable : (k : ℕ) → k < committed → StandsUndoable w os (entry_at es k)

-- The entries below a place were committed over the settings of a world of before.
pub record AreCommitted (before w : World) (os : List ObjectState) (es : List Staged) (n : ℕ) :
    Type 0 where
  pub stands : (k : ℕ) → k < n → StandsCommitted before w os (entry_at es k)

-- A call of the device of the object at a place, and whether it failed.
pub record CallAt : Type 0 where
  pub place : ℕ
  pub fails : Bool

-- The objects after one call, and after several.
abbrev pub after_call_at : CallAt → List ObjectState → List ObjectState
after_call_at call os =
    slice_set os call.place (object_called call.fails (object_at os call.place))

abbrev pub after_calls_at : List CallAt → List ObjectState → List ObjectState
after_calls_at [] os = os
after_calls_at (call ∷ calls) os = after_calls_at calls (after_call_at call os)

-- Each failed exactly where the plan of its object stated so.
abbrev pub AreByPlanAt : List CallAt → List ObjectState → Type 0
AreByPlanAt [] os = Unit {0}
AreByPlanAt (call ∷ calls) os =
    IsByPlan (object_at os call.place) call.fails × AreByPlanAt calls (after_call_at call os)

-- After these calls the objects are others.
pub record AreCalled (calls : List CallAt) (os ns : List ObjectState) : Type 0 where
  pub objects : ns ≡ after_calls_at calls os
  pub by_plan : AreByPlanAt calls os

abbrev pub commit_at : Bool → Staged → CallAt
commit_at fails e = record { place = e.object; fails = fails }

-- The commits of all entries; where that of the entry at place i failed, of those before it, and
-- that one.
abbrev pub commits_at : List Staged → Option ℕ → List CallAt
commits_at es None = map (commit_at false) es
commits_at es (Some i) = map (commit_at false) (take i es) ++ commit_at true (entry_at es i) ∷ []

abbrev pub undo_at : List SettingKey → Staged → CallAt
undo_at keys e = record { place = e.object; fails = has_key keys e.slot.key }

-- The undos of all entries, from the last to the first, of which those of these settings failed.
abbrev pub undos_at : List SettingKey → List Staged → List CallAt
undos_at keys es = map (undo_at keys) (reverse es)

-- The entries whose settings are among these.
abbrev pub entries_of : List SettingKey → List Staged → List Staged
entries_of keys es = filter (λ e. has_key keys e.slot.key) es

-- What is known where the commit of the entry at place i failed: those before it are committed.
pub record HasFailed (before w : World) (os : List ObjectState) (es : List Staged) (i : ℕ) :
    Type 0 where
  pub within : i < length es
  pub world : w ≡ assign (take i (assignments_of es)) before
  pub stands : AreCommitted before w os es i

-- So many commits may be undone: they were made over the settings of a world of before, where there
-- was memory for all that is staged.
pub record MayUndo (before w : World) (os : List ObjectState) (es : List Staged) (n : ℕ) :
    Type 0 where
  pub world : w ≡ assign (take n (assignments_of es)) before
  pub stands : AreCommitted before w os es n
  pub space : HasSpaceFor before (assignments_of es)
