-- The settings of a world as a finite map, from those of its bridge, from its static rows and from the
-- rows of view families.
use Rattle.std.proofs.Common.{◌≡◌, ◌≢◌, ℕ, ◌<◌, ◌≤◌, zero, suc, Bool, true, false, cond, nat_eq, List, length, refl, sym, ap, subst, ◌∙◌, ◌↔◌, arith}
use Rattle.std.proofs.lemmas.Bool.Decides.{nat_tests, Decides-eqb}
use Rattle.std.proofs.lemmas.List.{length-set}
use Rattle.rstp_settings.specs.declared.key.PortValues.{PortValues}
use Rattle.rstp_settings.specs.Table.{Table, get, put as put_key, HasKey, same_key}
use Rattle.rstp_settings.proofs.Puts.{get-put, put-back, put-comm, same_key-is, table-ext}
use Rattle.rstp_settings.specs.declared.key.Key.{Key}
use Rattle.rstp_settings.specs.declared.key.Key.TheVariants as key
use Rattle.rstp_settings.specs.declared.key.BridgeKey.{BridgeKey}
use Rattle.rstp_settings.specs.declared.key.BridgeKey.TheVariants as bridge
use Rattle.rstp_settings.specs.declared.key.PortKey.{PortKey}
use Rattle.rstp_settings.specs.declared.key.PortKey.TheVariants as port
use Rattle.rstp_settings.specs.Values.{same_bridge_key, same_port_key}
use Rattle.setting_keys.specs.declared.SettingKey.{SettingKey}
use Rattle.setting_keys.specs.declared.SettingKey.TheVariants.{Bridge, Made, Allowed, FamilyMask, FamilyType}
use Rattle.setting_keys.specs.declared.SettingValue.{SettingValue}
use Rattle.setting_keys.specs.declared.SettingValue.TheVariants.{Number, Ports, Mask}
use Rattle.fdb_core.specs.declared.port_set.PortSet.{PortSet}
use Rattle.fdb_core.specs.declared.static_row.StaticIndex.{StaticIndex}
use Rattle.fdb_core.specs.declared.static_row.StaticRow.{StaticRow}
use Rattle.fdb_core.specs.PortSets.{IsOfPorts}
use Rattle.fdb_core.specs.Statics.{row_of}
use Rattle.fdb_core.proofs.StaticFound.{same_tables}
use Rattle.bridge_core.specs.Bridge.{BridgeState, port_count}
use Rattle.bridge_core.specs.Statics.{is_made_in, ports_of, is_made, allowed, with_static, set_made, set_allowed, HasStatics}
use Rattle.bridge_core.proofs.StaticKept.{allowed_ports, with_row}
use Rattle.vacm_core.specs.Changes.{with_mask, with_type}
use Rattle.vacm_core.specs.declared.tables.FamilyRow.{FamilyRow}
use Rattle.setphase_core.specs.Settings.{families_of, setting, put, HasSetting, HasStaticSetting, IsSettingInRange, made_number, made_by, included_by, mask_at, type_at, same_index, same_setting, is_static, with_settings, with_rows, with_families_in, with_marks_of}
use Rattle.setphase_core.proofs.FamilyPuts.{mask_put, mask_elsewhere, mask_kept, mask_twice, mask_again, masks_either, masks_long, type_put, type_elsewhere, type_kept, type_twice, type_again, types_either, types_long, marks_either, marks_agree}
use Rattle.setphase_core.proofs.StaticPuts.{index-exact, index-itself, index-other, left_by, same_there, rising_with, made_twice, allowed_twice, made_again, allowed_again, made_either, allowed_either, both_either, made_after, ports_after, made_others, allowed_others, made_keeps_ports, allowed_keeps_made}
use Rattle.setphase_core.specs.declared.world.World.{World}

number-cond : (b : Bool) (m n : ℕ) → Number (cond b m n) ≡ cond b (Number m) (Number n)
number-cond true m n = refl
number-cond false m n = refl

-- What the bridge's settings have after a put.
bridge-put : (w : World) (k l : Key) (n : ℕ) → HasKey w.bridge.settings k → HasKey w.bridge.settings l → setting (put w (Bridge k) (Number n)) (Bridge l) ≡ cond (same_key k l) (Number n) (setting w (Bridge l))
bridge-put w k l n h i = ap Number (get-put w.bridge.settings k l n h i) ∙ number-cond (same_key k l) n (get w.bridge.settings l)

-- The number of a row that is made, and of one that is not.
made_back : (n : ℕ) → n ≤ 1 → made_number (made_by n) ≡ n
made_back zero h = refl
made_back (suc zero) h = refl
made_back (suc (suc n)) h = absurd (omega (arith, h))

made_same : (b : Bool) → made_by (made_number b) ≡ b
made_same true = refl
made_same false = refl

-- What static rows have after a put.
made-put : (w : World) (i j : StaticIndex) (n : ℕ) (b : Bool) → same_index i j ≡ b → HasStatics w.bridge → n ≤ 1 → setting (put w (Made i) (Number n)) (Made j) ≡ cond b (Number n) (setting w (Made j))
made-put w i j n true e h range =
    let row : StaticRow = record { index = i; made = made_by n; ports = allowed w.bridge i } in
    ap (λ (k : StaticIndex). setting (put w (Made i) (Number n)) (Made k)) (sym (index-exact i j e))
    ∙ ap (λ (m : Bool). Number (made_number m)) (made_after (port_count w.bridge) row w.bridge.statics.rows)
    ∙ ap Number (made_back n range)
made-put w i j n false e h range =
    ap (λ o. Number (made_number (is_made_in o))) (made_others (port_count w.bridge) w.bridge.statics.rows h.rising h.rows i j (made_by n) (λ q. index-other i j e (sym q)))

allowed-put : (w : World) (i j : StaticIndex) (s : PortSet) (b : Bool) → same_index i j ≡ b → HasStatics w.bridge → IsOfPorts (port_count w.bridge) s → setting (put w (Allowed i) (Ports s)) (Allowed j) ≡ cond b (Ports s) (setting w (Allowed j))
allowed-put w i j s true e h range =
    let row : StaticRow = record { index = i; made = is_made w.bridge i; ports = s } in
    ap (λ (k : StaticIndex). setting (put w (Allowed i) (Ports s)) (Allowed k)) (sym (index-exact i j e))
    ∙ ap Ports (ports_after (port_count w.bridge) row w.bridge.statics.rows range)
allowed-put w i j s false e h range =
    ap (λ o. Ports (ports_of (port_count w.bridge) o)) (allowed_others (port_count w.bridge) w.bridge.statics.rows h.rising h.rows i j s (λ q. index-other i j e (sym q)))

allowed-kept : (w : World) (i j : StaticIndex) (n : ℕ) → HasStatics w.bridge → setting (put w (Made i) (Number n)) (Allowed j) ≡ setting w (Allowed j)
allowed-kept w i j n h = ap Ports (made_keeps_ports (port_count w.bridge) w.bridge.statics.rows h.rising h.rows i j (made_by n))

made-kept : (w : World) (i j : StaticIndex) (s : PortSet) → HasStatics w.bridge → setting (put w (Allowed i) (Ports s)) (Made j) ≡ setting w (Made j)
made-kept w i j s h = ap (λ (m : Bool). Number (made_number m)) (allowed_keeps_made (port_count w.bridge) w.bridge.statics.rows h.rising h.rows i j s)

-- What masks and types have after a put.
mask-put : (w : World) (n k : ℕ) (m : List ℕ) (b : Bool) → nat_eq n k ≡ b → HasSetting w (FamilyMask n) → setting (put w (FamilyMask n) (Mask m)) (FamilyMask k) ≡ cond b (Mask m) (setting w (FamilyMask k))
mask-put w n k m true e h =
    let same : n ≡ k = grind (arith, nat_tests, e) in
    ap (λ (i : ℕ). setting (put w (FamilyMask n) (Mask m)) (FamilyMask i)) (sym same)
    ∙ ap Mask (mask_put (families_of w) n m h)
mask-put w n k m false e h =
    let other : n ≢ k = grind (arith, nat_tests, e) in
    ap Mask (mask_elsewhere (families_of w) n k m other)

type-put : (w : World) (n k t : ℕ) (b : Bool) → nat_eq n k ≡ b → HasSetting w (FamilyType n) → (1 ≤ t) × (t ≤ 2) → setting (put w (FamilyType n) (Number t)) (FamilyType k) ≡ cond b (Number t) (setting w (FamilyType k))
type-put w n k t true e h range =
    let same : n ≡ k = grind (arith, nat_tests, e) in
    ap (λ (i : ℕ). setting (put w (FamilyType n) (Number t)) (FamilyType i)) (sym same)
    ∙ ap Number (type_put (families_of w) n t h range)
type-put w n k t false e h range =
    let other : n ≢ k = grind (arith, nat_tests, e) in
    ap Number (type_elsewhere (families_of w) n k (included_by t) other)

type-kept : (w : World) (n k : ℕ) (m : List ℕ) → setting (put w (FamilyMask n) (Mask m)) (FamilyType k) ≡ setting w (FamilyType k)
type-kept w n k m = ap Number (type_kept (families_of w) n k m)

mask-kept : (w : World) (n k t : ℕ) → setting (put w (FamilyType n) (Number t)) (FamilyMask k) ≡ setting w (FamilyMask k)
mask-kept w n k t = ap Mask (mask_kept (families_of w) n k (included_by t))

pub setting-put : (w : World) (k l : SettingKey) (v : SettingValue) → HasSetting w k → HasSetting w l → IsSettingInRange w k v → setting (put w k v) l ≡ cond (same_setting k l) v (setting w l)
setting-put w (Bridge k) (Bridge l) (Number n) h i range = bridge-put w k l n h i
setting-put w (Bridge k) (Made l) (Number n) h i range = refl
setting-put w (Bridge k) (Allowed l) (Number n) h i range = refl
setting-put w (Bridge k) (FamilyMask l) (Number n) h i range = refl
setting-put w (Bridge k) (FamilyType l) (Number n) h i range = refl
setting-put w (Bridge k) l (Ports s) h i range = absurd range
setting-put w (Bridge k) l (Mask m) h i range = absurd range
setting-put w (Made k) (Bridge l) (Number n) h i range = refl
setting-put w (Made k) (Made l) (Number n) h i range = made-put w k l n (same_index k l) refl i.rows range
setting-put w (Made k) (Allowed l) (Number n) h i range = allowed-kept w k l n i.rows
setting-put w (Made k) (FamilyMask l) (Number n) h i range = refl
setting-put w (Made k) (FamilyType l) (Number n) h i range = refl
setting-put w (Made k) l (Ports s) h i range = absurd range
setting-put w (Made k) l (Mask m) h i range = absurd range
setting-put w (Allowed k) l (Number n) h i range = absurd range
setting-put w (Allowed k) (Bridge l) (Ports s) h i range = refl
setting-put w (Allowed k) (Made l) (Ports s) h i range = made-kept w k l s i.rows
setting-put w (Allowed k) (Allowed l) (Ports s) h i range = allowed-put w k l s (same_index k l) refl i.rows range
setting-put w (Allowed k) (FamilyMask l) (Ports s) h i range = refl
setting-put w (Allowed k) (FamilyType l) (Ports s) h i range = refl
setting-put w (Allowed k) l (Mask m) h i range = absurd range
setting-put w (FamilyMask k) l (Number n) h i range = absurd range
setting-put w (FamilyMask k) l (Ports s) h i range = absurd range
setting-put w (FamilyMask k) (Bridge l) (Mask m) h i range = refl
setting-put w (FamilyMask k) (Made l) (Mask m) h i range = refl
setting-put w (FamilyMask k) (Allowed l) (Mask m) h i range = refl
setting-put w (FamilyMask k) (FamilyMask l) (Mask m) h i range = mask-put w k l m (nat_eq k l) refl h
setting-put w (FamilyMask k) (FamilyType l) (Mask m) h i range = type-kept w k l m
setting-put w (FamilyType k) (Bridge l) (Number n) h i range = refl
setting-put w (FamilyType k) (Made l) (Number n) h i range = refl
setting-put w (FamilyType k) (Allowed l) (Number n) h i range = refl
setting-put w (FamilyType k) (FamilyMask l) (Number n) h i range = mask-kept w k l n
setting-put w (FamilyType k) (FamilyType l) (Number n) h i range = type-put w k l n (nat_eq k l) refl h range
setting-put w (FamilyType k) l (Ports s) h i range = absurd range
setting-put w (FamilyType k) l (Mask m) h i range = absurd range

-- Whatever a setting is given, the others have what they had.
pub setting-put_other : (w : World) (k l : SettingKey) (v : SettingValue) → same_setting k l ≡ false → HasSetting w k → HasSetting w l → setting (put w k v) l ≡ setting w l
setting-put_other w (Bridge k) (Bridge l) (Number n) other h i = bridge-put w k l n h i ∙ ap (λ (b : Bool). cond b (Number n) (setting w (Bridge l))) other
setting-put_other w (Bridge k) (Made l) (Number n) other h i = refl
setting-put_other w (Bridge k) (Allowed l) (Number n) other h i = refl
setting-put_other w (Bridge k) (FamilyMask l) (Number n) other h i = refl
setting-put_other w (Bridge k) (FamilyType l) (Number n) other h i = refl
setting-put_other w (Bridge k) l (Ports s) other h i = refl
setting-put_other w (Bridge k) l (Mask m) other h i = refl
setting-put_other w (Made k) (Bridge l) (Number n) other h i = refl
setting-put_other w (Made k) (Made l) (Number n) other h i =
    ap (λ o. Number (made_number (is_made_in o))) (made_others (port_count w.bridge) w.bridge.statics.rows i.rows.rising i.rows.rows k l (made_by n) (λ q. index-other k l other (sym q)))
setting-put_other w (Made k) (Allowed l) (Number n) other h i = allowed-kept w k l n i.rows
setting-put_other w (Made k) (FamilyMask l) (Number n) other h i = refl
setting-put_other w (Made k) (FamilyType l) (Number n) other h i = refl
setting-put_other w (Made k) l (Ports s) other h i = refl
setting-put_other w (Made k) l (Mask m) other h i = refl
setting-put_other w (Allowed k) l (Number n) other h i = refl
setting-put_other w (Allowed k) (Bridge l) (Ports s) other h i = refl
setting-put_other w (Allowed k) (Made l) (Ports s) other h i = made-kept w k l s i.rows
setting-put_other w (Allowed k) (Allowed l) (Ports s) other h i =
    ap (λ o. Ports (ports_of (port_count w.bridge) o)) (allowed_others (port_count w.bridge) w.bridge.statics.rows i.rows.rising i.rows.rows k l s (λ q. index-other k l other (sym q)))
setting-put_other w (Allowed k) (FamilyMask l) (Ports s) other h i = refl
setting-put_other w (Allowed k) (FamilyType l) (Ports s) other h i = refl
setting-put_other w (Allowed k) l (Mask m) other h i = refl
setting-put_other w (FamilyMask k) l (Number n) other h i = refl
setting-put_other w (FamilyMask k) l (Ports s) other h i = refl
setting-put_other w (FamilyMask k) (Bridge l) (Mask m) other h i = refl
setting-put_other w (FamilyMask k) (Made l) (Mask m) other h i = refl
setting-put_other w (FamilyMask k) (Allowed l) (Mask m) other h i = refl
setting-put_other w (FamilyMask k) (FamilyMask l) (Mask m) other h i = mask-put w k l m false other h
setting-put_other w (FamilyMask k) (FamilyType l) (Mask m) other h i = type-kept w k l m
setting-put_other w (FamilyType k) (Bridge l) (Number n) other h i = refl
setting-put_other w (FamilyType k) (Made l) (Number n) other h i = refl
setting-put_other w (FamilyType k) (Allowed l) (Number n) other h i = refl
setting-put_other w (FamilyType k) (FamilyMask l) (Number n) other h i = mask-kept w k l n
setting-put_other w (FamilyType k) (FamilyType l) (Number n) other h i =
    let apart : k ≢ l = grind (arith, nat_tests, other) in
    ap Number (type_elsewhere (families_of w) k l (included_by n) apart)
setting-put_other w (FamilyType k) l (Ports s) other h i = refl
setting-put_other w (FamilyType k) l (Mask m) other h i = refl

-- and each has its range, which goes by the number of ports alone.
pub ports-kept : (w : World) (k : SettingKey) (v : SettingValue) → port_count (put w k v).bridge ≡ port_count w.bridge
ports-kept w (Bridge k) (Number n) = refl
ports-kept w (Bridge k) (Ports s) = refl
ports-kept w (Bridge k) (Mask m) = refl
ports-kept w (Made k) (Number n) = refl
ports-kept w (Made k) (Ports s) = refl
ports-kept w (Made k) (Mask m) = refl
ports-kept w (Allowed k) (Number n) = refl
ports-kept w (Allowed k) (Ports s) = refl
ports-kept w (Allowed k) (Mask m) = refl
ports-kept w (FamilyMask k) (Number n) = refl
ports-kept w (FamilyMask k) (Ports s) = refl
ports-kept w (FamilyMask k) (Mask m) = refl
ports-kept w (FamilyType k) (Number n) = refl
ports-kept w (FamilyType k) (Ports s) = refl
ports-kept w (FamilyType k) (Mask m) = refl

range-same : (w x : World) (l : SettingKey) (u : SettingValue) → port_count x.bridge ≡ port_count w.bridge → IsSettingInRange w l u → IsSettingInRange x l u
range-same w x (Bridge l) (Number n) e h = h
range-same w x (Bridge l) (Ports s) e h = h
range-same w x (Bridge l) (Mask m) e h = h
range-same w x (Made l) (Number n) e h = h
range-same w x (Made l) (Ports s) e h = h
range-same w x (Made l) (Mask m) e h = h
range-same w x (Allowed l) (Number n) e h = h
range-same w x (Allowed l) (Ports s) e h = subst (λ n. IsOfPorts n s) (sym e) h
range-same w x (Allowed l) (Mask m) e h = h
range-same w x (FamilyMask l) (Number n) e h = h
range-same w x (FamilyMask l) (Ports s) e h = h
range-same w x (FamilyMask l) (Mask m) e h = h
range-same w x (FamilyType l) (Number n) e h = h
range-same w x (FamilyType l) (Ports s) e h = h
range-same w x (FamilyType l) (Mask m) e h = h

pub range-kept : (w : World) (k l : SettingKey) (v u : SettingValue) → IsSettingInRange w l u → IsSettingInRange (put w k v) l u
range-kept w k l v u h = range-same w (put w k v) l u (ports-kept w k v) h

pub range-before : (w : World) (k l : SettingKey) (v u : SettingValue) → IsSettingInRange (put w k v) l u → IsSettingInRange w l u
range-before w k l v u h = range-same (put w k v) w l u (sym (ports-kept w k v)) h

-- ---- over the bridge's table

ports_kept : (t : Table) (k : Key) (v : ℕ) → length (put_key t k v).ports ≡ length t.ports
ports_kept t (key.Bridge k) v = refl
ports_kept t (key.Port n k) v = length-set {A = PortValues} _ _ _

has_after : (t : Table) (k l : Key) (v : ℕ) → HasKey t l → HasKey (put_key t k v) l
has_after t k (key.Bridge l) v h = tt
has_after t k (key.Port n l) v h = (h.0, omega (arith, h.1, ports_kept t k v))

has_before : (t : Table) (k l : Key) (v : ℕ) → HasKey (put_key t k v) l → HasKey t l
has_before t k (key.Bridge l) v h = tt
has_before t k (key.Port n l) v h = (h.0, omega (arith, h.1, ports_kept t k v))

put_put : (t : Table) (k : Key) (v u : ℕ) → HasKey t k → put_key (put_key t k v) k u ≡ put_key t k u
put_put t k v u h = table-ext (put_key (put_key t k v) k u) (put_key t k u) (ports_kept (put_key t k v) k u ∙ ports_kept t k v ∙ sym (ports_kept t k u)) (λ l i.
    let there : HasKey t l = has_before t k l v (has_before (put_key t k v) k l u i) in
    get-put (put_key t k v) k l u (has_after t k k v h) (has_after t k l v there)
    ∙ ap (cond (same_key k l) u) (get-put t k l v h there)
    ∙ once (same_key k l) (get t l)
    ∙ sym (get-put t k l u h there))
  where
    once : (b : Bool) (x : ℕ) → cond b u (cond b v x) ≡ cond b u x
    once true x = refl
    once false x = refl

put_same : (t : Table) (k : Key) → HasKey t k → put_key t k (get t k) ≡ t
put_same t k h = table-ext (put_key t k (get t k)) t (ports_kept t k (get t k)) (λ l i.
    let there : HasKey t l = has_before t k l (get t k) i in
    get-put t k l (get t k) h there ∙ pick l (same_key k l) refl)
  where
    pick : (l : Key) (b : Bool) → same_key k l ≡ b → cond b (get t k) (get t l) ≡ get t l
    pick l true e = ap (get t) (same_key-is k l e)
    pick l false e = refl

same_bridge_key-itself : (k : BridgeKey) → same_bridge_key k k ≡ true
same_bridge_key-itself bridge.Priority = refl
same_bridge_key-itself bridge.MaxAge = refl
same_bridge_key-itself bridge.Hello = refl
same_bridge_key-itself bridge.ForwardDelay = refl
same_bridge_key-itself bridge.Version = refl
same_bridge_key-itself bridge.HoldCount = refl
same_bridge_key-itself bridge.Aging = refl

same_port_key-itself : (k : PortKey) → same_port_key k k ≡ true
same_port_key-itself port.Priority = refl
same_port_key-itself port.Enable = refl
same_port_key-itself port.Cost = refl
same_port_key-itself port.Migrate = refl
same_port_key-itself port.Edge = refl
same_port_key-itself port.PointToPoint = refl

same_key-itself : (k : Key) → same_key k k ≡ true
same_key-itself (key.Bridge k) = same_bridge_key-itself k
same_key-itself (key.Port n k) =
    let same : nat_eq n n ≡ true = grind (arith, nat_tests) in
    rw same (same_port_key-itself k)

-- ---- over the settings of a world

pub put-put : (w : World) (k : SettingKey) (v u : SettingValue) → HasSetting w k → IsSettingInRange w k u → put (put w k v) k u ≡ put w k u
put-put w (Bridge k) (Number m) (Number n) h range = ap (with_settings w) (put_put w.bridge.settings k m n h)
put-put w (Bridge k) (Ports s) (Number n) h range = refl
put-put w (Bridge k) (Mask m) (Number n) h range = refl
put-put w (Bridge k) v (Ports s) h range = absurd range
put-put w (Bridge k) v (Mask m) h range = absurd range
put-put w (Made k) (Number m) (Number n) h range =
    ap (with_rows w) (made_twice (port_count w.bridge) w.bridge.statics.rows h.rows.rising h.rows.rows k (made_by n) (made_by m))
put-put w (Made k) (Ports s) (Number n) h range = refl
put-put w (Made k) (Mask m) (Number n) h range = refl
put-put w (Made k) v (Ports s) h range = absurd range
put-put w (Made k) v (Mask m) h range = absurd range
put-put w (Allowed k) v (Number n) h range = absurd range
put-put w (Allowed k) v (Mask m) h range = absurd range
put-put w (Allowed k) (Number m) (Ports s) h range = refl
put-put w (Allowed k) (Mask m) (Ports s) h range = refl
put-put w (Allowed k) (Ports t) (Ports s) h range =
    ap (with_rows w) (allowed_twice (port_count w.bridge) w.bridge.statics.rows h.rows.rising h.rows.rows k s t)
put-put w (FamilyMask k) v (Number n) h range = absurd range
put-put w (FamilyMask k) v (Ports s) h range = absurd range
put-put w (FamilyMask k) (Number t) (Mask m) h range = refl
put-put w (FamilyMask k) (Ports s) (Mask m) h range = refl
put-put w (FamilyMask k) (Mask a) (Mask b) h range = ap (with_families_in w) (mask_twice (families_of w) k a b)
put-put w (FamilyType k) v (Ports s) h range = absurd range
put-put w (FamilyType k) v (Mask m) h range = absurd range
put-put w (FamilyType k) (Number t) (Number n) h range = ap (with_families_in w) (type_twice (families_of w) k (included_by t) (included_by n))
put-put w (FamilyType k) (Ports s) (Number n) h range = refl
put-put w (FamilyType k) (Mask m) (Number n) h range = refl

pub put-again : (w : World) (k : SettingKey) → HasSetting w k → put w k (setting w k) ≡ w
put-again w (Bridge k) h = ap (with_settings w) (put_same w.bridge.settings k h)
put-again w (Made k) h =
    ap (λ (m : Bool). record w { bridge = set_made k m w.bridge }) (made_same (is_made w.bridge k))
    ∙ ap (with_rows w) (made_again (port_count w.bridge) w.bridge.statics.rows h.rows.rising h.rows.rows k)
put-again w (Allowed k) h = ap (with_rows w) (allowed_again (port_count w.bridge) w.bridge.statics.rows h.rows.rising h.rows.rows k)
put-again w (FamilyMask k) h = ap (with_families_in w) (mask_again (families_of w) k)
put-again w (FamilyType k) h = ap (with_families_in w) (type_again (families_of w) k)

pub put-restored : (w : World) (k : SettingKey) (v : SettingValue) → HasSetting w k → put (put w k v) k (setting w k) ≡ w
put-restored w (Bridge k) (Number n) h = ap (with_settings w) (put-back w.bridge.settings k n h)
put-restored w (Bridge k) (Ports s) h = put-again w (Bridge k) h
put-restored w (Bridge k) (Mask m) h = put-again w (Bridge k) h
put-restored w (Made k) (Number n) h =
    ap (with_rows w) (made_twice (port_count w.bridge) w.bridge.statics.rows h.rows.rising h.rows.rows k (made_by (made_number (is_made w.bridge k))) (made_by n))
    ∙ put-again w (Made k) h
put-restored w (Made k) (Ports s) h = put-again w (Made k) h
put-restored w (Made k) (Mask m) h = put-again w (Made k) h
put-restored w (Allowed k) (Number n) h = put-again w (Allowed k) h
put-restored w (Allowed k) (Mask m) h = put-again w (Allowed k) h
put-restored w (Allowed k) (Ports s) h =
    ap (with_rows w) (allowed_twice (port_count w.bridge) w.bridge.statics.rows h.rows.rising h.rows.rows k (allowed w.bridge k) s)
    ∙ put-again w (Allowed k) h
put-restored w (FamilyMask k) (Number n) h = put-again w (FamilyMask k) h
put-restored w (FamilyMask k) (Ports s) h = put-again w (FamilyMask k) h
put-restored w (FamilyMask k) (Mask m) h =
    ap (with_families_in w) (mask_twice (families_of w) k m (mask_at (families_of w) k))
    ∙ put-again w (FamilyMask k) h
put-restored w (FamilyType k) (Number n) h =
    ap (with_families_in w) (type_twice (families_of w) k (included_by n) (included_by (type_at (families_of w) k)))
    ∙ put-again w (FamilyType k) h
put-restored w (FamilyType k) (Ports s) h = put-again w (FamilyType k) h
put-restored w (FamilyType k) (Mask m) h = put-again w (FamilyType k) h

-- a put of another kind's value needs no second lookup
pub puts-commuted : (w : World) (k l : SettingKey) (v u : SettingValue) → k ≢ l → HasSetting w k → HasSetting w l → IsSettingInRange w k v → IsSettingInRange w l u → put (put w k v) l u ≡ put (put w l u) k v
puts-commuted w (Bridge k) l (Ports s) u ne h i range fits = absurd range
puts-commuted w (Bridge k) l (Mask a) u ne h i range fits = absurd range
puts-commuted w (Made k) l (Ports s) u ne h i range fits = absurd range
puts-commuted w (Made k) l (Mask a) u ne h i range fits = absurd range
puts-commuted w (Allowed k) l (Number m) u ne h i range fits = absurd range
puts-commuted w (Allowed k) l (Mask a) u ne h i range fits = absurd range
puts-commuted w (FamilyMask k) l (Number m) u ne h i range fits = absurd range
puts-commuted w (FamilyMask k) l (Ports s) u ne h i range fits = absurd range
puts-commuted w (FamilyType k) l (Ports s) u ne h i range fits = absurd range
puts-commuted w (FamilyType k) l (Mask a) u ne h i range fits = absurd range
puts-commuted w k (Bridge l) v (Ports t) ne h i range fits = absurd fits
puts-commuted w k (Bridge l) v (Mask b) ne h i range fits = absurd fits
puts-commuted w k (Made l) v (Ports t) ne h i range fits = absurd fits
puts-commuted w k (Made l) v (Mask b) ne h i range fits = absurd fits
puts-commuted w k (Allowed l) v (Number n) ne h i range fits = absurd fits
puts-commuted w k (Allowed l) v (Mask b) ne h i range fits = absurd fits
puts-commuted w k (FamilyMask l) v (Number n) ne h i range fits = absurd fits
puts-commuted w k (FamilyMask l) v (Ports t) ne h i range fits = absurd fits
puts-commuted w k (FamilyType l) v (Ports t) ne h i range fits = absurd fits
puts-commuted w k (FamilyType l) v (Mask b) ne h i range fits = absurd fits
puts-commuted w (Bridge k) (Bridge l) (Number m) (Number n) ne h i range fits = ap (with_settings w) (put-comm w.bridge.settings k l m n (λ e. ne (ap Bridge e)) h i)
puts-commuted w (Bridge k) (Made l) (Number m) (Number n) ne h i range fits = refl
puts-commuted w (Bridge k) (Allowed l) (Number m) (Ports t) ne h i range fits = refl
puts-commuted w (Bridge k) (FamilyMask l) (Number m) (Mask b) ne h i range fits = refl
puts-commuted w (Bridge k) (FamilyType l) (Number m) (Number n) ne h i range fits = refl
puts-commuted w (Made k) (Bridge l) (Number m) (Number n) ne h i range fits = refl
puts-commuted w (Made k) (Made l) (Number m) (Number n) ne h i range fits =
    ap (with_rows w) (made_either (port_count w.bridge) w.bridge.statics.rows h.rows.rising h.rows.rows k l (made_by m) (made_by n) (λ e. ne (ap Made e)))
puts-commuted w (Made k) (Allowed l) (Number m) (Ports t) ne h i range fits =
    ap (with_rows w) (both_either (port_count w.bridge) w.bridge.statics.rows h.rows.rising h.rows.rows k l (made_by m) t fits)
puts-commuted w (Made k) (FamilyMask l) (Number m) (Mask b) ne h i range fits = refl
puts-commuted w (Made k) (FamilyType l) (Number m) (Number n) ne h i range fits = refl
puts-commuted w (Allowed k) (Bridge l) (Ports s) (Number n) ne h i range fits = refl
puts-commuted w (Allowed k) (Made l) (Ports s) (Number n) ne h i range fits =
    ap (with_rows w) (sym (both_either (port_count w.bridge) w.bridge.statics.rows h.rows.rising h.rows.rows l k (made_by n) s range))
puts-commuted w (Allowed k) (Allowed l) (Ports s) (Ports t) ne h i range fits =
    ap (with_rows w) (allowed_either (port_count w.bridge) w.bridge.statics.rows h.rows.rising h.rows.rows k l s t (λ e. ne (ap Allowed e)))
puts-commuted w (Allowed k) (FamilyMask l) (Ports s) (Mask b) ne h i range fits = refl
puts-commuted w (Allowed k) (FamilyType l) (Ports s) (Number n) ne h i range fits = refl
puts-commuted w (FamilyMask k) (Bridge l) (Mask a) (Number n) ne h i range fits = refl
puts-commuted w (FamilyMask k) (Made l) (Mask a) (Number n) ne h i range fits = refl
puts-commuted w (FamilyMask k) (Allowed l) (Mask a) (Ports t) ne h i range fits = refl
puts-commuted w (FamilyMask k) (FamilyMask l) (Mask a) (Mask b) ne h i range fits = ap (with_families_in w) (masks_either (families_of w) k l a b (λ e. ne (ap FamilyMask e)))
puts-commuted w (FamilyMask k) (FamilyType l) (Mask a) (Number n) ne h i range fits = ap (with_families_in w) (marks_either (families_of w) k l a (included_by n))
puts-commuted w (FamilyType k) (Bridge l) (Number m) (Number n) ne h i range fits = refl
puts-commuted w (FamilyType k) (Made l) (Number m) (Number n) ne h i range fits = refl
puts-commuted w (FamilyType k) (Allowed l) (Number m) (Ports t) ne h i range fits = refl
puts-commuted w (FamilyType k) (FamilyMask l) (Number m) (Mask b) ne h i range fits = ap (with_families_in w) (sym (marks_either (families_of w) l k b (included_by m)))
puts-commuted w (FamilyType k) (FamilyType l) (Number m) (Number n) ne h i range fits = ap (with_families_in w) (types_either (families_of w) k l (included_by m) (included_by n) (λ e. ne (ap FamilyType e)))

-- A put of a value in range takes no setting away.
statics-kept : (b : BridgeState) (row : StaticRow) → IsOfPorts (port_count b) row.ports → HasStatics b → HasStatics (with_static row b)
statics-kept b row ports h = record {
  rising = rising_with (port_count b) row b.statics.rows h.rising;
  rows = with_row (port_count b) row b.statics.rows ports h.rows;
}

made-has : (b : BridgeState) (k l : StaticIndex) (made : Bool) → HasStaticSetting b l → HasStaticSetting (set_made k made b) l
made-has b k l made h = record {
  index = record {
    address = h.index.address;
    port = h.index.port;
    foreign = h.index.foreign;
    unreserved = h.index.unreserved;
  };
  rows = statics-kept b (record { index = k; made = made; ports = allowed b k }) (allowed_ports (port_count b) b.statics.rows k h.rows.rows) h.rows;
}

allowed-has : (b : BridgeState) (k l : StaticIndex) (ports : PortSet) → IsOfPorts (port_count b) ports → HasStaticSetting b l → HasStaticSetting (set_allowed k ports b) l
allowed-has b k l ports range h = record {
  index = record {
    address = h.index.address;
    port = h.index.port;
    foreign = h.index.foreign;
    unreserved = h.index.unreserved;
  };
  rows = statics-kept b (record { index = k; made = is_made b k; ports = ports }) range h.rows;
}

bridge-has : (b : BridgeState) (t : Table) (l : StaticIndex) → HasStaticSetting b l → HasStaticSetting (record b { settings = t }) l
bridge-has b t l h = record {
  index = record {
    address = h.index.address;
    port = h.index.port;
    foreign = h.index.foreign;
    unreserved = h.index.unreserved;
  };
  rows = record { rising = h.rows.rising; rows = h.rows.rows };
}

mask-has : (w : World) (n k : ℕ) (m : List ℕ) → k < length (families_of w) → k < length (with_mask (families_of w) n m)
mask-has w n k m h = omega (arith, h, masks_long (families_of w) n m)

type-has : (w : World) (n k : ℕ) (b : Bool) → k < length (families_of w) → k < length (with_type (families_of w) n b)
type-has w n k b h = omega (arith, h, types_long (families_of w) n b)

pub keys-kept : (w : World) (k l : SettingKey) (v : SettingValue) → IsSettingInRange w k v → HasSetting w l → HasSetting (put w k v) l
keys-kept w (Bridge k) l (Ports s) range h = absurd range
keys-kept w (Bridge k) l (Mask m) range h = absurd range
keys-kept w (Made k) l (Ports s) range h = absurd range
keys-kept w (Made k) l (Mask m) range h = absurd range
keys-kept w (Allowed k) l (Number n) range h = absurd range
keys-kept w (Allowed k) l (Mask m) range h = absurd range
keys-kept w (FamilyMask k) l (Number n) range h = absurd range
keys-kept w (FamilyMask k) l (Ports s) range h = absurd range
keys-kept w (FamilyType k) l (Ports s) range h = absurd range
keys-kept w (FamilyType k) l (Mask m) range h = absurd range
keys-kept w (Bridge k) (Bridge l) (Number n) range h = has_after w.bridge.settings k l n h
keys-kept w (Bridge k) (Made l) (Number n) range h = bridge-has w.bridge (put_key w.bridge.settings k n) l h
keys-kept w (Bridge k) (Allowed l) (Number n) range h = bridge-has w.bridge (put_key w.bridge.settings k n) l h
keys-kept w (Bridge k) (FamilyMask l) (Number n) range h = h
keys-kept w (Bridge k) (FamilyType l) (Number n) range h = h
keys-kept w (Made k) (Bridge l) (Number n) range h = h
keys-kept w (Made k) (Made l) (Number n) range h = made-has w.bridge k l (made_by n) h
keys-kept w (Made k) (Allowed l) (Number n) range h = made-has w.bridge k l (made_by n) h
keys-kept w (Made k) (FamilyMask l) (Number n) range h = h
keys-kept w (Made k) (FamilyType l) (Number n) range h = h
keys-kept w (Allowed k) (Bridge l) (Ports s) range h = h
keys-kept w (Allowed k) (Made l) (Ports s) range h = allowed-has w.bridge k l s range h
keys-kept w (Allowed k) (Allowed l) (Ports s) range h = allowed-has w.bridge k l s range h
keys-kept w (Allowed k) (FamilyMask l) (Ports s) range h = h
keys-kept w (Allowed k) (FamilyType l) (Ports s) range h = h
keys-kept w (FamilyMask k) (Bridge l) (Mask m) range h = h
keys-kept w (FamilyMask k) (Made l) (Mask m) range h = h
keys-kept w (FamilyMask k) (Allowed l) (Mask m) range h = h
keys-kept w (FamilyMask k) (FamilyMask l) (Mask m) range h = mask-has w k l m h
keys-kept w (FamilyMask k) (FamilyType l) (Mask m) range h = mask-has w k l m h
keys-kept w (FamilyType k) (Bridge l) (Number n) range h = h
keys-kept w (FamilyType k) (Made l) (Number n) range h = h
keys-kept w (FamilyType k) (Allowed l) (Number n) range h = h
keys-kept w (FamilyType k) (FamilyMask l) (Number n) range h = type-has w k l (included_by n) h
keys-kept w (FamilyType k) (FamilyType l) (Number n) range h = type-has w k l (included_by n) h

bridge-same : (k l : Key) → (same_key k l ≡ true) ↔ (Bridge k ≡ Bridge l)
bridge-same k l = (λ h. ap Bridge (same_key-is k l h), λ e. subst (λ m. same_setting (Bridge k) m ≡ true) e (same_key-itself k))

number-itself : (n : ℕ) → nat_eq n n ≡ true
number-itself n = (Decides-eqb n n).1 refl

pub same-exact : (k l : SettingKey) → (same_setting k l ≡ true) ↔ (k ≡ l)
same-exact (Bridge k) (Bridge l) = bridge-same k l
same-exact (Bridge k) (Made l) = (λ h. absurd cc, λ e. absurd cc)
same-exact (Bridge k) (Allowed l) = (λ h. absurd cc, λ e. absurd cc)
same-exact (Bridge k) (FamilyMask l) = (λ h. absurd cc, λ e. absurd cc)
same-exact (Bridge k) (FamilyType l) = (λ h. absurd cc, λ e. absurd cc)
same-exact (Made k) (Bridge l) = (λ h. absurd cc, λ e. absurd cc)
same-exact (Made k) (Made l) = (λ h. ap Made (index-exact k l h), λ e. subst (λ m. same_setting (Made k) m ≡ true) e (index-itself k))
same-exact (Made k) (Allowed l) = (λ h. absurd cc, λ e. absurd cc)
same-exact (Made k) (FamilyMask l) = (λ h. absurd cc, λ e. absurd cc)
same-exact (Made k) (FamilyType l) = (λ h. absurd cc, λ e. absurd cc)
same-exact (Allowed k) (Bridge l) = (λ h. absurd cc, λ e. absurd cc)
same-exact (Allowed k) (Made l) = (λ h. absurd cc, λ e. absurd cc)
same-exact (Allowed k) (Allowed l) = (λ h. ap Allowed (index-exact k l h), λ e. subst (λ m. same_setting (Allowed k) m ≡ true) e (index-itself k))
same-exact (Allowed k) (FamilyMask l) = (λ h. absurd cc, λ e. absurd cc)
same-exact (Allowed k) (FamilyType l) = (λ h. absurd cc, λ e. absurd cc)
same-exact (FamilyMask k) (Bridge l) = (λ h. absurd cc, λ e. absurd cc)
same-exact (FamilyMask k) (Made l) = (λ h. absurd cc, λ e. absurd cc)
same-exact (FamilyMask k) (Allowed l) = (λ h. absurd cc, λ e. absurd cc)
same-exact (FamilyMask k) (FamilyMask l) = (λ h. ap FamilyMask ((Decides-eqb k l).0 h), λ e. subst (λ m. same_setting (FamilyMask k) m ≡ true) e (number-itself k))
same-exact (FamilyMask k) (FamilyType l) = (λ h. absurd cc, λ e. absurd cc)
same-exact (FamilyType k) (Bridge l) = (λ h. absurd cc, λ e. absurd cc)
same-exact (FamilyType k) (Made l) = (λ h. absurd cc, λ e. absurd cc)
same-exact (FamilyType k) (Allowed l) = (λ h. absurd cc, λ e. absurd cc)
same-exact (FamilyType k) (FamilyMask l) = (λ h. absurd cc, λ e. absurd cc)
same-exact (FamilyType k) (FamilyType l) = (λ h. ap FamilyType ((Decides-eqb k l).0 h), λ e. subst (λ m. same_setting (FamilyType k) m ≡ true) e (number-itself k))

-- ---- settings that agree

pub same_number : (m n : ℕ) → Number m ≡ Number n → m ≡ n
same_number m n e = cc

pub settings-ext : (w : World) (t : Table) → length t.ports ≡ length w.bridge.settings.ports → ((k : SettingKey) → HasSetting w k → setting (with_settings w t) k ≡ setting w k) → with_settings w t ≡ w
settings-ext w t len e =
    ap (with_settings w) (sym (table-ext w.bridge.settings t (sym len) (λ k h. sym (same_number (get t k) (get w.bridge.settings k) (e (Bridge k) h)))))

-- static rows that agree on each index
same_made : (a b : Bool) → Number (made_number a) ≡ Number (made_number b) → a ≡ b
same_made true true e = refl
same_made true false e = let no : 1 ≡ 0 = same_number 1 0 e in absurd (omega (arith, no))
same_made false true e = let no : 0 ≡ 1 = same_number 0 1 e in absurd (omega (arith, no))
same_made false false e = refl

pub same_set : (s t : PortSet) → Ports s ≡ Ports t → s ≡ t
same_set s t e = cc

pub rows-ext : (w : World) (rows : List StaticRow) → HasStatics (with_rows w rows).bridge → HasStatics w.bridge → ((k : SettingKey) → is_static k ≡ true → setting (with_rows w rows) k ≡ setting w k) → with_rows w rows ≡ w
rows-ext w rows h i e =
    ap (with_rows w) (same_tables rows w.bridge.statics.rows h.rising i.rising (λ j.
    sym (same_there (port_count w.bridge) rows j h.rows)
    ∙ ap (λ (m : Bool). left_by (port_count w.bridge) (record { index = j; made = m; ports = ports_of (port_count w.bridge) (row_of rows j) })) (same_made (is_made_in (row_of rows j)) (is_made w.bridge j) (e (Made j) refl))
    ∙ ap (λ (s : PortSet). left_by (port_count w.bridge) (record { index = j; made = is_made w.bridge j; ports = s })) (same_set (ports_of (port_count w.bridge) (row_of rows j)) (allowed w.bridge j) (e (Allowed j) refl))
    ∙ same_there (port_count w.bridge) w.bridge.statics.rows j i.rows))

-- masks and types that agree on each row
pub same_octets : (a b : List ℕ) → Mask a ≡ Mask b → a ≡ b
same_octets a b e = cc

pub marks-ext : (w : World) (rows : List FamilyRow) → ((k : SettingKey) → HasSetting w k → setting (with_families_in w rows) k ≡ setting w k) → with_marks_of rows (families_of w) ≡ families_of w
marks-ext w rows e =
    marks_agree rows (families_of w)
    (λ n h. same_octets (mask_at rows n) (mask_at (families_of w) n) (e (FamilyMask n) h))
    (λ n h. same_number (type_at rows n) (type_at (families_of w) n) (e (FamilyType n) h))
