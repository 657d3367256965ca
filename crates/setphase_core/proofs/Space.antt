-- Memory for the static rows that a Set brings in.
use Rattle.std.proofs.Common.{◌≡◌, ℕ, zero, suc, ◌+◌, ◌<◌, ◌≤◌, ◌∙◌, sym, ap, subst, refl, Bool, true, false, cond, List, [], ◌∷◌, ◌++◌, length, take, drop, arith}
use Rattle.bridge_core.specs.Bridge.{port_count}
use Rattle.bridge_core.specs.Statics.{is_made, allowed}
use Rattle.setting_keys.specs.declared.SettingKey.{SettingKey}
use Rattle.setting_keys.specs.declared.SettingKey.TheVariants.{Bridge, Made, Allowed, FamilyMask, FamilyType}
use Rattle.setting_keys.specs.declared.SettingValue.{SettingValue}
use Rattle.setting_keys.specs.declared.SettingValue.TheVariants.{Number, Ports, Mask}
use Rattle.setphase_core.specs.declared.object.Assignment.{Assignment}
use Rattle.setphase_core.specs.declared.staging.Staged.{Staged}
use Rattle.setphase_core.specs.declared.world.World.{World}
use Rattle.setphase_core.specs.Objects.{ObjectState, HasSpace}
use Rattle.setphase_core.specs.Outcomes.{has_key}
use Rattle.setphase_core.specs.Settings.{put, is_static, made_by}
use Rattle.setphase_core.specs.Staging.{assignments_of, entry_at, entries_of, static_count, HasFailed, HasSpaceFor, MayUndo}
use Rattle.setphase_core.specs.Together.{assign}
use Rattle.setphase_core.proofs.Assigns.{assign_more}
use Rattle.setphase_core.proofs.StaticPuts.{one_more, brought_in}

-- ---- puts

rows-put : (w : World) (k : SettingKey) (v : SettingValue) →
    length (put w k v).bridge.statics.rows ≤ cond (is_static k) 1 0 + length w.bridge.statics.rows
rows-put w (Bridge k) (Number a) = omega arith
rows-put w (Bridge k) (Ports s) = omega arith
rows-put w (Bridge k) (Mask m) = omega arith
rows-put w (Made i) (Number a) =
    omega (arith, one_more (port_count w.bridge) (record { index = i; made = made_by a; ports = allowed w.bridge i }) w.bridge.statics.rows)
rows-put w (Made i) (Ports s) = omega arith
rows-put w (Made i) (Mask m) = omega arith
rows-put w (Allowed i) (Number a) = omega arith
rows-put w (Allowed i) (Ports s) =
    omega (arith, one_more (port_count w.bridge) (record { index = i; made = is_made w.bridge i; ports = s }) w.bridge.statics.rows)
rows-put w (Allowed i) (Mask m) = omega arith
rows-put w (FamilyMask n) (Number a) = omega arith
rows-put w (FamilyMask n) (Ports s) = omega arith
rows-put w (FamilyMask n) (Mask m) = omega arith
rows-put w (FamilyType n) (Number a) = omega arith
rows-put w (FamilyType n) (Ports s) = omega arith
rows-put w (FamilyType n) (Mask m) = omega arith

places-put : (w : World) (k : SettingKey) (v : SettingValue) →
    (put w k v).bridge.statics.places ≡ w.bridge.statics.places
places-put w (Bridge k) (Number a) = refl
places-put w (Bridge k) (Ports s) = refl
places-put w (Bridge k) (Mask m) = refl
places-put w (Made i) (Number a) = refl
places-put w (Made i) (Ports s) = refl
places-put w (Made i) (Mask m) = refl
places-put w (Allowed i) (Number a) = refl
places-put w (Allowed i) (Ports s) = refl
places-put w (Allowed i) (Mask m) = refl
places-put w (FamilyMask n) (Number a) = refl
places-put w (FamilyMask n) (Ports s) = refl
places-put w (FamilyMask n) (Mask m) = refl
places-put w (FamilyType n) (Number a) = refl
places-put w (FamilyType n) (Ports s) = refl
places-put w (FamilyType n) (Mask m) = refl

-- Where the rows after a put are within the places, there is memory for it.
space_fits : (w : World) (k : SettingKey) (v : SettingValue) →
    (is_static k ≡ true → length (put w k v).bridge.statics.rows ≤ w.bridge.statics.places) →
    HasSpace w k v
space_fits w (Bridge k) (Number a) h = tt
space_fits w (Bridge k) (Ports s) h = tt
space_fits w (Bridge k) (Mask m) h = tt
space_fits w (Made i) (Number a) h = λ says none.
    omega (arith, h refl, brought_in (port_count w.bridge) (record { index = i; made = made_by a; ports = allowed w.bridge i }) w.bridge.statics.rows says none)
space_fits w (Made i) (Ports s) h = tt
space_fits w (Made i) (Mask m) h = tt
space_fits w (Allowed i) (Number a) h = tt
space_fits w (Allowed i) (Ports s) h = λ says none.
    omega (arith, h refl, brought_in (port_count w.bridge) (record { index = i; made = is_made w.bridge i; ports = s }) w.bridge.statics.rows says none)
space_fits w (Allowed i) (Mask m) h = tt
space_fits w (FamilyMask n) (Number a) h = tt
space_fits w (FamilyMask n) (Ports s) h = tt
space_fits w (FamilyMask n) (Mask m) h = tt
space_fits w (FamilyType n) (Number a) h = tt
space_fits w (FamilyType n) (Ports s) h = tt
space_fits w (FamilyType n) (Mask m) h = tt

-- ---- assignments

rows-assign : (ps : List Assignment) (w : World) →
    length (assign ps w).bridge.statics.rows ≤ static_count ps + length w.bridge.statics.rows
rows-assign [] w = omega arith
rows-assign (a ∷ ps) w =
    omega (arith, rows-assign ps (put w a.key a.value), rows-put w a.key a.value)

pub places-assign : (ps : List Assignment) (w : World) →
    (assign ps w).bridge.statics.places ≡ w.bridge.statics.places
places-assign [] w = refl
places-assign (a ∷ ps) w = places-assign ps (put w a.key a.value) ∙ places-put w a.key a.value

static_count-append : (ps qs : List Assignment) →
    static_count (ps ++ qs) ≡ static_count ps + static_count qs
static_count-append [] qs = omega arith
static_count-append (a ∷ ps) qs = omega (arith, static_count-append ps qs)

-- ---- entries

taken_count : (es : List Staged) (n : ℕ) →
    static_count (take n (assignments_of es)) ≤ static_count (assignments_of es)
taken_count es zero = omega arith
taken_count [] (suc n) = omega arith
taken_count (e ∷ es) (suc n) = omega (arith, taken_count es n)

static_at : (es : List Staged) (k : ℕ) → k < length es →
    is_static (entry_at es k).slot.key ≡ true → 0 < static_count (assignments_of es)
static_at [] k h e = absurd (omega arith)
static_at (x ∷ es) zero h e = here (is_static x.slot.key) e
  where
    here : (b : Bool) → b ≡ true → 0 < cond b 1 0 + static_count (assignments_of es)
    here true e = omega arith
    here false e = absurd cc
static_at (x ∷ es) (suc k) h e = omega (arith, static_at es k (omega arith) e)

picked_count : (b : Bool) (e : Staged) (es fs : List Staged) →
    static_count (assignments_of es) ≤ static_count (assignments_of fs) →
    static_count (assignments_of (cond b (e ∷ es) es)) ≤ static_count (assignments_of (e ∷ fs))
picked_count true e es fs h = omega (arith, h)
picked_count false e es fs h = omega (arith, h)

entries_count : (keys : List SettingKey) (es : List Staged) →
    static_count (assignments_of (entries_of keys es)) ≤ static_count (assignments_of es)
entries_count keys [] = omega arith
entries_count keys (e ∷ es) =
    picked_count (has_key keys e.slot.key) e (entries_of keys es) es (entries_count keys es)

-- Those below a place, and those from a later one up to another.
whole_count : (es : List Staged) (n : ℕ) →
    static_count (assignments_of (take n es)) ≤ static_count (assignments_of es)
whole_count es zero = omega arith
whole_count [] (suc n) = omega arith
whole_count (e ∷ es) (suc n) = omega (arith, whole_count es n)

behind_count : (es : List Staged) (m n : ℕ) →
    static_count (assignments_of (drop m (take n es))) ≤ static_count (assignments_of es)
behind_count es zero n = whole_count es n
behind_count [] (suc m) zero = omega arith
behind_count [] (suc m) (suc n) = omega arith
behind_count (e ∷ es) (suc m) zero = omega arith
behind_count (e ∷ es) (suc m) (suc n) = omega (arith, behind_count es m n)

parts_count : (es : List Staged) (k m n : ℕ) → k ≤ m →
    static_count (take k (assignments_of es)) + static_count (assignments_of (drop m (take n es)))
    ≤ static_count (assignments_of es)
parts_count es zero m n h = omega (arith, behind_count es m n)
parts_count [] (suc k) m zero h = omega (arith, behind_count [] m zero)
parts_count [] (suc k) m (suc n) h = omega (arith, behind_count [] m (suc n))
parts_count (e ∷ es) (suc k) zero n h = absurd (omega arith)
parts_count (e ∷ es) (suc k) (suc m) zero h = omega (arith, taken_count es k)
parts_count (e ∷ es) (suc k) (suc m) (suc n) h = omega (arith, parts_count es k m n (omega arith))

-- ---- a commit, and an undo

-- There is memory for a put that leaves what some of the assignments make of a world of before.
space_for : (before w : World) (es : List Staged) (ps qs : List Assignment) (k : SettingKey)
    (v : SettingValue) → HasSpaceFor before (assignments_of es) → w ≡ assign ps before →
    put w k v ≡ assign qs before → static_count qs ≤ static_count (assignments_of es) →
    (is_static k ≡ true → 0 < static_count (assignments_of es)) → HasSpace w k v
space_for before w es ps qs k v space was is few among =
    space_fits w k v (λ static.
    let places : w.bridge.statics.places ≡ before.bridge.statics.places = ap (λ (x : World). x.bridge.statics.places) was ∙ places-assign ps before in
    let rows : length (put w k v).bridge.statics.rows ≡ length (assign qs before).bridge.statics.rows = ap (λ (x : World). length x.bridge.statics.rows) is in
    omega (arith, places, rows, rows-assign qs before, few, space (among static)))

pub space_commit : (before w : World) (es : List Staged) (i : ℕ) →
    HasSpaceFor before (assignments_of es) → w ≡ assign (take i (assignments_of es)) before →
    i < length es → HasSpace w (entry_at es i).slot.key (entry_at es i).slot.value
space_commit before w es i space was h =
    space_for before w es (take i (assignments_of es)) (take (i + 1) (assignments_of es)) (entry_at es i).slot.key (entry_at es i).slot.value space was (assign_more before w es i h was) (taken_count es (i + 1)) (static_at es i h)

pub space_undo : (before w : World) (es : List Staged) (ps : List Assignment) (k m n : ℕ)
    (keys : List SettingKey) (v : SettingValue) → HasSpaceFor before (assignments_of es) →
    w ≡ assign ps before → k < length es → k ≤ m →
    put w (entry_at es k).slot.key v
    ≡ assign (take k (assignments_of es) ++ assignments_of (entries_of keys (drop m (take n es)))) before →
    HasSpace w (entry_at es k).slot.key v
space_undo before w es ps k m n keys v space was h less is =
    space_for before w es ps (take k (assignments_of es) ++ assignments_of (entries_of keys (drop m (take n es)))) (entry_at es k).slot.key v space was is
    (omega (arith, static_count-append (take k (assignments_of es)) (assignments_of (entries_of keys (drop m (take n es)))), entries_count keys (drop m (take n es)), parts_count es k m n less))
    (static_at es k h)

-- What was committed before a commit failed may be undone.
pub may_undo : (before w : World) (os : List ObjectState) (es fs : List Staged) (i n : ℕ) →
    HasFailed before w os es i → fs ≡ es → n ≡ i → HasSpaceFor before (assignments_of es) →
    (b : World) × MayUndo b w os fs n
may_undo before w os es fs i n failed same at space = (
  before,
  subst (λ (m : ℕ). MayUndo before w os fs m) (sym at) (subst (λ (xs : List Staged). MayUndo before w os xs i) (sym same) (record {
    world = failed.world;
    stands = failed.stands;
    space = space;
  })),
)
