-- The settings of a world as one finite map from keys to values (RFC 4188, RFC 4318; IEEE
-- 802.1D-2004 7.9.1, 17.13, 17.14; RFC 3415, vacmViewTreeFamilyTable).
use Rattle.std.specs.Prelude.{◌≡◌, ℕ, ◌<◌, ◌≤◌, Bool, true, false, not, ◌==◌, ◌&&◌, if◌then◌else◌, List, [], ◌∷◌, length, map, slice_get, bytes_eq, Option, Some, None}
use Rattle.std.specs.Cmp.Lexicographic.{pointwise}
use Rattle.std.specs.Ordering.{is_eq}
use Rattle.fdb_core.specs.declared.port_set.PortSet.{PortSet}
use Rattle.fdb_core.specs.declared.static_row.StaticIndex.{StaticIndex}
use Rattle.fdb_core.specs.declared.static_row.StaticRow.{StaticRow}
use Rattle.fdb_core.specs.PortSets.{IsOfPorts}
use Rattle.fdb_core.specs.Statics.{index_cmp}
use Rattle.rstp_settings.specs.Table.{Table, get, HasKey, IsInRange, same_key}
use Rattle.rstp_settings.specs.declared.key.Key.{Key}
use Rattle.rstp_settings.specs.declared.key.Key.TheVariants as key
use Rattle.rstp_settings.specs.declared.key.PortKey.TheVariants as port
use Rattle.rstp_settings.specs.declared.key.BridgeValues.{BridgeValues}
use Rattle.rstp_settings.specs.declared.key.PortValues.{PortValues}
use Rattle.vacm_core.specs.Changes.{with_mask, with_type}
use Rattle.vacm_core.specs.declared.limits.TheConstants.{MAX_MASK}
use Rattle.vacm_core.specs.declared.tables.FamilyRow.{FamilyRow}
use Rattle.community_core.specs.Communities.{with_families}
use Rattle.setting_keys.specs.declared.SettingKey.{SettingKey}
use Rattle.setting_keys.specs.declared.SettingKey.TheVariants.{Bridge, Made, Allowed, FamilyMask, FamilyType}
use Rattle.setting_keys.specs.declared.SettingValue.{SettingValue}
use Rattle.setting_keys.specs.declared.SettingValue.TheVariants.{Number, Ports, Mask}
use Rattle.bridge_core.specs.Bridge.{BridgeState, port_count}
use Rattle.bridge_core.specs.Events.{set_bridge}
use Rattle.bridge_core.specs.Statics.{is_made, allowed, set_made, set_allowed, HasStatics}
use Rattle.bridge_core.specs.StaticIndexes.{IsStaticIndex}
use Rattle.setphase_core.specs.declared.world.World.{World}

-- There may be a static row of the index, and the static rows are in order, each of the bridge's
-- ports, and each made or with not all ports.
pub record HasStaticSetting (b : BridgeState) (i : StaticIndex) : Type 0 where
  pub index : IsStaticIndex b i
  pub rows : HasStatics b

-- The rows of view families, which the policy has.
abbrev pub families_of : World → List FamilyRow
families_of w = w.policy.vacm.families

-- There is such a setting.
abbrev pub HasSetting : World → SettingKey → Type 0
HasSetting w (Bridge k) = HasKey w.bridge.settings k
HasSetting w (Made i) = HasStaticSetting w.bridge i
HasSetting w (Allowed i) = HasStaticSetting w.bridge i
HasSetting w (FamilyMask n) = n < length (families_of w)
HasSetting w (FamilyType n) = n < length (families_of w)

-- Whether a row is made, as the number that its setting has, and by that number.
abbrev pub made_number : Bool → ℕ
made_number made = if made then 1 else 0

abbrev pub made_by : ℕ → Bool
made_by n = n == 1

-- Whether a view includes a family, as the number that its setting has, and by that number.
abbrev pub type_number : Bool → ℕ
type_number included = if included then 1 else 2

abbrev pub included_by : ℕ → Bool
included_by n = n == 1

-- The mask and the type of the family row of a number. Where there is no such row there are the
-- values that a new row has: no mask, and included.
abbrev pub mask_of : Option FamilyRow → List ℕ
mask_of (Some row) = row.mask
mask_of None = []

abbrev pub type_of : Option FamilyRow → ℕ
type_of (Some row) = type_number row.included
type_of None = type_number true

abbrev pub mask_at : List FamilyRow → ℕ → List ℕ
mask_at rows n = mask_of (slice_get rows n)

abbrev pub type_at : List FamilyRow → ℕ → ℕ
type_at rows n = type_of (slice_get rows n)

-- The value that it has.
abbrev pub setting : World → SettingKey → SettingValue
setting w (Bridge k) = Number (get w.bridge.settings k)
setting w (Made i) = Number (made_number (is_made w.bridge i))
setting w (Allowed i) = Ports (allowed w.bridge i)
setting w (FamilyMask n) = Mask (mask_at (families_of w) n)
setting w (FamilyType n) = Number (type_at (families_of w) n)

-- The same world but for its rows of view families.
abbrev pub with_families_in : World → List FamilyRow → World
with_families_in w rows = record w { policy = with_families w.policy rows }

-- The world after it was given a value: nothing else changed. A value of another kind changes
-- nothing.
abbrev pub put : World → SettingKey → SettingValue → World
put w (Bridge k) (Number n) = record w { bridge = set_bridge k n w.bridge }
put w (Made i) (Number n) = record w { bridge = set_made i (made_by n) w.bridge }
put w (Allowed i) (Ports s) = record w { bridge = set_allowed i s w.bridge }
put w (FamilyMask n) (Mask m) = with_families_in w (with_mask (families_of w) n m)
put w (FamilyType n) (Number t) = with_families_in w (with_type (families_of w) n (included_by t))
put w k v = w

-- A value that it may have in a world.
abbrev pub IsSettingInRange : World → SettingKey → SettingValue → Type 0
IsSettingInRange w (Bridge k) (Number n) = IsInRange k n
IsSettingInRange w (Made i) (Number n) = n ≤ 1
IsSettingInRange w (Allowed i) (Ports s) = IsOfPorts (port_count w.bridge) s
IsSettingInRange w (FamilyMask n) (Mask m) = length m ≤ MAX_MASK
IsSettingInRange w (FamilyType n) (Number t) = (1 ≤ t) × (t ≤ 2)
IsSettingInRange w k v = ⊥

abbrev pub same_index : StaticIndex → StaticIndex → Bool
same_index i j = is_eq (index_cmp i j)

abbrev pub same_setting : SettingKey → SettingKey → Bool
same_setting (Bridge k) (Bridge l) = same_key k l
same_setting (Made i) (Made j) = same_index i j
same_setting (Allowed i) (Allowed j) = same_index i j
same_setting (FamilyMask n) (FamilyMask m) = n == m
same_setting (FamilyType n) (FamilyType m) = n == m
same_setting k l = false

-- Sets are the same where each port is in both or in none, and masks where their octets are.
abbrev pub same_bool : Bool → Bool → Bool
same_bool a b = if a then b else not b

abbrev pub same_ports : PortSet → PortSet → Bool
same_ports s t = pointwise same_bool s.0 t.0

abbrev pub same_value : SettingValue → SettingValue → Bool
same_value (Number n) (Number m) = n == m
same_value (Ports s) (Ports t) = same_ports s t
same_value (Mask a) (Mask b) = bytes_eq a b
same_value u v = false

-- The keys of a bridge's settings, among those of all.
abbrev pub bridge_keys : List Key → List SettingKey
bridge_keys keys = map Bridge keys

-- A setting that a device holds: whether a port is on (RFC 4188, dot1dStpPortEnable). No other can
-- fail to be given a value.
abbrev pub is_line : SettingKey → Bool
is_line (Bridge (key.Port n port.Enable)) = true
is_line other = false

abbrev pub IsLine : SettingKey → Type 0
IsLine k = is_line k ≡ true

-- A setting of a static row: only such a one may need a place among those reserved to be given a
-- value.
abbrev pub is_static : SettingKey → Bool
is_static (Bridge k) = false
is_static (Made i) = true
is_static (Allowed i) = true
is_static (FamilyMask n) = false
is_static (FamilyType n) = false

-- ---- the settings of whole worlds

abbrev pub same_bridge_values : BridgeValues → BridgeValues → Bool
same_bridge_values a b =
    a.priority == b.priority && (a.max_age == b.max_age && (a.hello == b.hello
    && (a.forward_delay == b.forward_delay && (a.version == b.version
    && (a.hold_count == b.hold_count && a.aging == b.aging)))))

abbrev pub same_port_values : PortValues → PortValues → Bool
same_port_values a b =
    a.priority == b.priority && (a.enable == b.enable && (a.cost == b.cost
    && (a.migrate == b.migrate && (a.edge == b.edge && a.point_to_point == b.point_to_point))))

-- Each setting of a bridge has the same value.
abbrev pub same_settings : Table → Table → Bool
same_settings a b =
    same_bridge_values a.bridge b.bridge && pointwise same_port_values a.ports b.ports

abbrev pub same_static_row : StaticRow → StaticRow → Bool
same_static_row r s =
    same_index r.index s.index && (same_bool r.made s.made && same_ports r.ports s.ports)

-- The same static rows.
abbrev pub same_static_rows : List StaticRow → List StaticRow → Bool
same_static_rows rows others = pointwise same_static_row rows others

-- The same masks and types of as many family rows.
abbrev pub same_mark : FamilyRow → FamilyRow → Bool
same_mark r s = bytes_eq r.mask s.mask && same_bool r.included s.included

abbrev pub same_marks : List FamilyRow → List FamilyRow → Bool
same_marks rows others = pointwise same_mark rows others

-- Each setting has the same value in both worlds.
abbrev pub same_settings_of : World → World → Bool
same_settings_of v w =
    same_settings v.bridge.settings w.bridge.settings
    && (same_static_rows v.bridge.statics.rows w.bridge.statics.rows
    && same_marks (families_of v) (families_of w))

-- The same world but for its bridge's settings, and but for its static rows.
abbrev pub with_settings : World → Table → World
with_settings w t = record w { bridge = record w.bridge { settings = t } }

abbrev pub with_rows : World → List StaticRow → World
with_rows w rows =
    record w { bridge = record w.bridge { statics = record w.bridge.statics { rows = rows } } }

-- Family rows with the masks and types of others, place by place: their views and subtrees stay, and
-- no row is made or removed. A row that has no counterpart has those of a new row: no mask, and
-- included.
abbrev pub with_marks_of : List FamilyRow → List FamilyRow → List FamilyRow
with_marks_of froms [] = []
with_marks_of [] (r ∷ rows) =
    record r { mask = []; included = true } ∷ with_marks_of [] rows
with_marks_of (f ∷ froms) (r ∷ rows) =
    record r { mask = f.mask; included = f.included } ∷ with_marks_of froms rows

-- The same world but for the masks and types of its family rows, which are those of another.
abbrev pub with_families_like : World → World → World
with_families_like v w = with_families_in w (with_marks_of (families_of v) (families_of w))

-- The same world but for its settings, which are those of another: of its policy the masks and types
-- of family rows alone.
abbrev pub with_settings_of : World → World → World
with_settings_of v w =
    with_families_like v (with_rows (with_settings w v.bridge.settings) v.bridge.statics.rows)
