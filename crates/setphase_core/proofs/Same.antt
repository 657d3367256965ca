-- Whether the settings of two worlds are the same.
use Rattle.std.proofs.Common.{◌≡◌, ◌≢◌, ◌∙◌, ℕ, zero, suc, ◌<◌, ◌+◌, Bool, true, false, not, cond, ◌&&◌, List, [], ◌∷◌, length, take, Some, ap, sym, subst, refl, arith}
use Rattle.std.specs.Bool.{Decides}
use Rattle.std.specs.Cmp.Lexicographic.{pointwise}
use Rattle.std.proofs.lemmas.Bool.Decides.{Decides-and, Decides-like}
use Rattle.std.proofs.lemmas.Slice.Eq.{slice_eq-Decides}
use Rattle.fdb_core.specs.declared.static_row.StaticIndex.{StaticIndex}
use Rattle.fdb_core.specs.declared.static_row.StaticRow.{StaticRow}
use Rattle.fdb_core.specs.Statics.{row_of}
use Rattle.bridge_core.specs.Bridge.{port_count}
use Rattle.bridge_core.specs.Statics.{is_made_in, ports_of}
use Rattle.rstp_settings.specs.Table.{Table, get}
use Rattle.rstp_settings.proofs.Same.{same_port-Decides, same_bridge-Decides}
use Rattle.setting_keys.specs.declared.SettingKey.{SettingKey}
use Rattle.setting_keys.specs.declared.SettingKey.TheVariants.{Bridge, Made, Allowed, FamilyMask, FamilyType}
use Rattle.setting_keys.specs.declared.SettingValue.TheVariants.{Number, Ports, Mask}
use Rattle.setphase_core.specs.declared.object.Assignment.{Assignment}
use Rattle.setphase_core.specs.declared.staging.Staged.{Staged}
use Rattle.setphase_core.specs.declared.world.World.{World}
use Rattle.setphase_core.specs.Settings.{families_of, setting, put, same_index, same_settings, same_port_values, made_number, same_static_row, same_static_rows, same_marks, same_settings_of}
use Rattle.setphase_core.specs.Staging.{entry_at, assignment_of_entry, assignments_of, IsDistinct, IsLegal, AreLegal}
use Rattle.setphase_core.specs.Tested.{value_among}
use Rattle.setphase_core.specs.Together.{assign}
use Rattle.setphase_core.proofs.Assigns.{different, distinct_below, assign_more}
use Rattle.setphase_core.proofs.FamilyPuts.{same_bool-Decides, marks, marks-Decides, mask_alike, type_alike}
use Rattle.setphase_core.proofs.Firsts.{same_itself, same_ports-Decides}
use Rattle.setphase_core.proofs.Puts.{put-again, ports-kept}
use Rattle.setphase_core.proofs.StaticPuts.{index-exact, index-itself}
use Rattle.setphase_core.proofs.Timers.{given_value}

pub same_settings-Decides : (t u : Table) → Decides (same_settings t u) (t ≡ u)
same_settings-Decides t u =
    Decides-like _ (λ h i. record { bridge = h.0 i; ports = h.1 i }) (λ e. (ap (λ (x : Table). x.bridge) e, ap (λ (x : Table). x.ports) e))
    (Decides-and _ _ (same_bridge-Decides t.bridge u.bridge) (slice_eq-Decides {E = same_port_values} same_port-Decides t.ports u.ports (pointwise same_port_values t.ports u.ports) refl))

index-Decides : (i j : StaticIndex) → Decides (same_index i j) (i ≡ j)
index-Decides i j = (index-exact i j, λ e. subst (λ k. same_index i k ≡ true) e (index-itself i))

row-Decides : (r s : StaticRow) → Decides (same_static_row r s) (r ≡ s)
row-Decides r s =
    Decides-like _
    (λ h i. record { index = h.0 i; made = h.1.0 i; ports = h.1.1 i })
    (λ e. (ap (λ (x : StaticRow). x.index) e, (ap (λ (x : StaticRow). x.made) e, ap (λ (x : StaticRow). x.ports) e)))
    (Decides-and _ _ (index-Decides r.index s.index) (Decides-and _ _ (same_bool-Decides r.made s.made) (same_ports-Decides r.ports s.ports)))

pub rows-Decides : (rows others : List StaticRow) → Decides (same_static_rows rows others) (rows ≡ others)
rows-Decides rows others = slice_eq-Decides {E = same_static_row} row-Decides rows others _ refl

-- The settings that are none of the bridge or of its ports are the same where the static rows are,
-- and the masks and types of family rows.
pub others-Decides : (v w : World) → Decides (same_static_rows v.bridge.statics.rows w.bridge.statics.rows && same_marks (families_of v) (families_of w)) ((v.bridge.statics.rows ≡ w.bridge.statics.rows) × (marks (families_of v) ≡ marks (families_of w)))
others-Decides v w =
    Decides-and _ _ (rows-Decides v.bridge.statics.rows w.bridge.statics.rows) (marks-Decides (families_of v) (families_of w))

-- Settings are the same where all parts are.
pub same_of-Decides : (v w : World) → Decides (same_settings_of v w) ((v.bridge.settings ≡ w.bridge.settings) × ((v.bridge.statics.rows ≡ w.bridge.statics.rows) × (marks (families_of v) ≡ marks (families_of w))))
same_of-Decides v w =
    Decides-and _ _ (same_settings-Decides v.bridge.settings w.bridge.settings) (others-Decides v w)

-- A world and itself.
pub same_itself_of : (w v : World) → v ≡ w → false ≡ not (same_settings_of w v)
same_itself_of w v e =
    ap not (sym ((same_of-Decides w v).1 (ap (λ (x : World). x.bridge.settings) (sym e), (ap (λ (x : World). x.bridge.statics.rows) (sym e), ap (λ (x : World). marks (families_of x)) (sym e)))))

-- Each setting is the same then, those of static rows at bridges of as many ports.
same_each : (w v : World) (k : SettingKey) → port_count w.bridge ≡ port_count v.bridge →
    same_settings_of w v ≡ true → setting w k ≡ setting v k
same_each w v (Bridge k) n e = ap (λ (t : Table). Number (get t k)) ((same_of-Decides w v).0 e).0
same_each w v (Made i) n e =
    ap (λ (rows : List StaticRow). Number (made_number (is_made_in (row_of rows i)))) ((same_of-Decides w v).0 e).1.0
same_each w v (Allowed i) n e =
    ap (λ (rows : List StaticRow). Ports (ports_of (port_count w.bridge) (row_of rows i))) ((same_of-Decides w v).0 e).1.0
    ∙ ap (λ m. Ports (ports_of m (row_of v.bridge.statics.rows i))) n
same_each w v (FamilyMask k) n e =
    ap Mask (mask_alike (families_of w) (families_of v) k ((same_of-Decides w v).0 e).1.1)
same_each w v (FamilyType k) n e =
    ap Number (type_alike (families_of w) (families_of v) k ((same_of-Decides w v).0 e).1.1)

-- A setting that has another value in the other world.
pub other_of : (w v : World) (k : SettingKey) → port_count w.bridge ≡ port_count v.bridge →
    setting w k ≢ setting v k → true ≡ not (same_settings_of w v)
other_of w v k n ne = by_same (same_settings_of w v) refl
  where
    by_same : (b : Bool) → same_settings_of w v ≡ b → true ≡ not b
    by_same true e = absurd (ne (same_each w v k n e))
    by_same false e = refl

-- ---- what is staged

-- Assignments leave as many ports.
ports-assigned : (ps : List Assignment) (w : World) → port_count (assign ps w).bridge ≡ port_count w.bridge
ports-assigned [] w = refl
ports-assigned (a ∷ ps) w = ports-assigned ps (put w a.key a.value) ∙ ports-kept w a.key a.value

pub legal_at : (es : List Staged) (w : World) (k : ℕ) → AreLegal w (assignments_of es) → k < length es →
    IsLegal w (assignment_of_entry (entry_at es k))
legal_at [] w k all h = absurd (omega arith)
legal_at (e ∷ es) w zero all h = all.0
legal_at (e ∷ es) w (suc k) all h = legal_at es w k all.1 (omega arith)

value_at : (es : List Staged) (k : ℕ) → IsDistinct (assignments_of es) → k < length es →
    value_among (assignments_of es) (entry_at es k).slot.key ≡ Some (entry_at es k).slot.value
value_at [] k distinct h = absurd (omega arith)
value_at (e ∷ es) zero distinct h = ap (λ (b : Bool). cond b (Some e.slot.value) (value_among (assignments_of es) e.slot.key)) (same_itself e.slot.key)
value_at (e ∷ es) (suc k) distinct h =
    ap (λ (b : Bool). cond b (Some e.slot.value) (value_among (assignments_of es) (entry_at es k).slot.key))
    (different e.slot.key (entry_at es k).slot.key (λ q. distinct_below (e ∷ es) 0 (suc k) distinct (omega arith) h (sym q)))
    ∙ value_at es k distinct.1 (omega arith)

-- One that gives its setting another value than it has.
pub other_staged : (es : List Staged) (w : World) (k : ℕ) → IsDistinct (assignments_of es) →
    AreLegal w (assignments_of es) → k < length es →
    setting w (entry_at es k).slot.key ≢ (entry_at es k).slot.value →
    true ≡ not (same_settings_of w (assign (assignments_of es) w))
other_staged es w k distinct legal h ne =
    other_of w (assign (assignments_of es) w) (entry_at es k).slot.key (sym (ports-assigned (assignments_of es) w))
    (λ e. ne (e ∙ sym (given_value (assignments_of es) w (entry_at es k).slot.key (entry_at es k).slot.value distinct legal (legal_at es w k legal h).key (value_at es k distinct h))))

-- One more that gives its setting the value that it has.
pub same_staged : (es : List Staged) (w : World) (k : ℕ) → AreLegal w (assignments_of es) → k < length es →
    setting w (entry_at es k).slot.key ≡ (entry_at es k).slot.value →
    w ≡ assign (take k (assignments_of es)) w → w ≡ assign (take (k + 1) (assignments_of es)) w
same_staged es w k legal h same before =
    sym (ap (put w (entry_at es k).slot.key) (sym same) ∙ put-again w (entry_at es k).slot.key (legal_at es w k legal h).key)
    ∙ assign_more w w es k h before

taken_all : (es : List Staged) (n : ℕ) → length es ≡ n → take n (assignments_of es) ≡ assignments_of es
taken_all [] zero e = refl
taken_all [] (suc n) e = absurd (omega (arith, e))
taken_all (e ∷ es) zero f = absurd (omega (arith, f))
taken_all (e ∷ es) (suc n) f = ap (λ xs. assignment_of_entry e ∷ xs) (taken_all es n (omega (arith, f)))

pub none_staged : (es : List Staged) (w : World) (n : ℕ) → length es ≡ n →
    w ≡ assign (take n (assignments_of es)) w →
    false ≡ not (same_settings_of w (assign (assignments_of es) w))
none_staged es w n all same =
    same_itself_of w (assign (assignments_of es) w) (sym (same ∙ ap (λ ps. assign ps w) (taken_all es n all)))

-- ---- what could not be undone
