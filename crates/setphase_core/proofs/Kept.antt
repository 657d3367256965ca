-- What a Set keeps: of the world all but its settings, and of the objects their rows; and it leaves
-- nothing reserved.
use Rattle.std.proofs.Common.{◌≡◌, ℕ, ◌-◌, ◌∙◌, refl, sym, ap, arith, Bool, true, false, cond, List, [], ◌∷◌, length, map, take, Option, Some, None}
use Rattle.rstp_settings.specs.declared.key.Key.{Key}
use Rattle.vacm_core.specs.declared.tables.FamilyRow.{FamilyRow}
use Rattle.setting_keys.specs.declared.SettingKey.{SettingKey}
use Rattle.setting_keys.specs.declared.SettingKey.TheVariants.{Bridge, Made, Allowed, FamilyMask, FamilyType}
use Rattle.setting_keys.specs.declared.SettingValue.{SettingValue}
use Rattle.setting_keys.specs.declared.SettingValue.TheVariants.{Number, Ports, Mask}
use Rattle.setphase_core.specs.declared.object.Assignment.{Assignment}
use Rattle.setphase_core.specs.declared.sets.SetRefusal.{SetRefusal}
use Rattle.setphase_core.specs.declared.world.World.{World}
use Rattle.setphase_core.specs.declared.object.Reservation.{Reservation}
use Rattle.setphase_core.specs.Objects.{ObjectState, object_after_release}
use Rattle.setphase_core.specs.Registry.{rows_of, held_count}
use Rattle.setphase_core.specs.Settings.{families_of, put, included_by, bridge_keys, with_families_in, with_settings_of}
use Rattle.setphase_core.specs.Together.{assign, assignments}
use Rattle.setphase_core.specs.Variables.{NamedAssignment}
use Rattle.setphase_core.specs.Outcomes.{SetNotes, has_key, committed_of, writers_of, world_by, world_after_set, stuck}
use Rattle.setphase_core.specs.Calls.{Call, object_after_set}
use Rattle.setphase_core.proofs.FamilyPuts.{marks_over_mask, marks_over_type, marks_itself}
use Rattle.setphase_core.proofs.Called.{row_after_calls, reserved_after_calls}

put_keeps : (x w : World) (k : SettingKey) (v : SettingValue) →
    with_settings_of x (put w k v) ≡ with_settings_of x w
put_keeps x w (Bridge k) (Number a) = refl
put_keeps x w (Bridge k) (Ports s) = refl
put_keeps x w (Bridge k) (Mask m) = refl
put_keeps x w (Made i) (Number a) = refl
put_keeps x w (Made i) (Ports s) = refl
put_keeps x w (Made i) (Mask m) = refl
put_keeps x w (Allowed i) (Number a) = refl
put_keeps x w (Allowed i) (Ports s) = refl
put_keeps x w (Allowed i) (Mask m) = refl
put_keeps x w (FamilyMask n) (Number a) = refl
put_keeps x w (FamilyMask n) (Ports s) = refl
put_keeps x w (FamilyMask n) (Mask m) =
    ap (λ (rows : List FamilyRow). with_families_in (with_settings_of x w) rows) (marks_over_mask (families_of x) (families_of w) n m)
put_keeps x w (FamilyType n) (Number a) =
    ap (λ (rows : List FamilyRow). with_families_in (with_settings_of x w) rows) (marks_over_type (families_of x) (families_of w) n (included_by a))
put_keeps x w (FamilyType n) (Ports s) = refl
put_keeps x w (FamilyType n) (Mask m) = refl

-- A world has its own settings.
with_itself : (w : World) → w ≡ with_settings_of w w
with_itself w = ap (λ (rows : List FamilyRow). with_families_in w rows) (sym (marks_itself (families_of w)))

assign_keeps : (ps : List Assignment) (w : World) → assign ps w ≡ with_settings_of (assign ps w) w
assign_keeps [] w = with_itself w
assign_keeps (a ∷ ps) w =
    assign_keeps ps (put w a.key a.value)
    ∙ put_keeps (assign ps (put w a.key a.value)) w a.key a.value

by_keeps : (ws : List NamedAssignment) (w : World) (commit : Option ℕ) (undos : List SettingKey) →
    world_by ws w commit undos ≡ with_settings_of (world_by ws w commit undos) w
by_keeps ws w None undos = assign_keeps (assignments ws) w
by_keeps ws w (Some i) undos = assign_keeps (assignments (stuck ws i undos)) w

after_set_keeps : (refusal : Option SetRefusal) (ws : List NamedAssignment) (w : World) (notes : SetNotes) →
    world_after_set refusal ws w notes ≡ with_settings_of (world_after_set refusal ws w notes) w
after_set_keeps (Some refusal) ws w notes = with_itself w
after_set_keeps None ws w notes = by_keeps ws w notes.commit (bridge_keys notes.undos)

-- A Set changes nothing but settings.
pub set_keeps : (refusal : Option SetRefusal) (ws : List NamedAssignment) (w new : World)
    (notes : SetNotes) → new ≡ world_after_set refusal ws w notes → new ≡ with_settings_of new w
set_keeps refusal ws w new notes e =
    e ∙ after_set_keeps refusal ws w notes ∙ ap (λ (x : World). with_settings_of x w) (sym e)

-- ---- what could not be undone

-- What a put of a bridge's setting leaves: the static rows, and the policy.
record KeepsOthers (w v : World) : Type 0 where
  rows : v.bridge.statics.rows ≡ w.bridge.statics.rows
  policy : v.policy ≡ w.policy

-- It is a setting of the bridge or of one of its ports.
abbrev is_of_bridge : SettingKey → Bool
is_of_bridge (Bridge k) = true
is_of_bridge (Made i) = false
is_of_bridge (Allowed i) = false
is_of_bridge (FamilyMask n) = false
is_of_bridge (FamilyType n) = false

others_kept : (w : World) (k : SettingKey) (v : SettingValue) → is_of_bridge k ≡ true →
    KeepsOthers w (put w k v)
others_kept w (Bridge k) (Number n) e = record { rows = refl; policy = refl }
others_kept w (Bridge k) (Ports s) e = record { rows = refl; policy = refl }
others_kept w (Bridge k) (Mask m) e = record { rows = refl; policy = refl }
others_kept w (Made i) v e = absurd cc
others_kept w (Allowed i) v e = absurd cc
others_kept w (FamilyMask n) v e = absurd cc
others_kept w (FamilyType n) v e = absurd cc

-- Only a bridge's settings are among the keys of such.
bridge_only : (keys : List Key) (k : SettingKey) → has_key (bridge_keys keys) k ≡ true →
    is_of_bridge k ≡ true
bridge_only keys (Bridge k) e = refl
bridge_only [] (Made i) e = absurd cc
bridge_only (l ∷ keys) (Made i) e = bridge_only keys (Made i) e
bridge_only [] (Allowed i) e = absurd cc
bridge_only (l ∷ keys) (Allowed i) e = bridge_only keys (Allowed i) e
bridge_only [] (FamilyMask n) e = absurd cc
bridge_only (l ∷ keys) (FamilyMask n) e = bridge_only keys (FamilyMask n) e
bridge_only [] (FamilyType n) e = absurd cc
bridge_only (l ∷ keys) (FamilyType n) e = bridge_only keys (FamilyType n) e

one_kept : (x : NamedAssignment) (xs : List NamedAssignment) (w : World) (b : Bool) →
    (b ≡ true → is_of_bridge x.assignment.key ≡ true) →
    ((v : World) → KeepsOthers v (assign (assignments xs) v)) →
    KeepsOthers w (assign (assignments (cond b (x ∷ xs) xs)) w)
one_kept x xs w true plain rest =
    let later = rest (put w x.assignment.key x.assignment.value) in
    let first = others_kept w x.assignment.key x.assignment.value (plain refl) in
    record { rows = later.rows ∙ first.rows; policy = later.policy ∙ first.policy }
one_kept x xs w false plain rest = rest w

writers_kept : (keys : List Key) (xs : List NamedAssignment) (w : World) →
    KeepsOthers w (assign (assignments (writers_of (bridge_keys keys) xs)) w)
writers_kept keys [] w = record { rows = refl; policy = refl }
writers_kept keys (x ∷ xs) w =
    one_kept x (writers_of (bridge_keys keys) xs) w (has_key (bridge_keys keys) x.assignment.key)
    (bridge_only keys x.assignment.key) (writers_kept keys xs)

-- Settings of a bridge that could not be undone leave the static rows, and the policy.
pub stuck_keeps_rows : (ws : List NamedAssignment) (i : ℕ) (keys : List Key) (w : World) →
    (assign (assignments (stuck ws i (bridge_keys keys))) w).bridge.statics.rows
    ≡ w.bridge.statics.rows
stuck_keeps_rows ws i keys w = (writers_kept keys (committed_of (take (i - 1) ws)) w).rows

pub stuck_keeps_policy : (ws : List NamedAssignment) (i : ℕ) (keys : List Key) (w : World) →
    (assign (assignments (stuck ws i (bridge_keys keys))) w).policy ≡ w.policy
stuck_keeps_policy ws i keys w = (writers_kept keys (committed_of (take (i - 1) ws)) w).policy

-- The rows of objects after a Set, and the slots that they have reserved.
pub rows_of-after : (calls : List Call) (os : List ObjectState) →
    rows_of (map (object_after_set calls) os) ≡ rows_of os
rows_of-after calls [] = refl
rows_of-after calls (o ∷ os) =
    ap (λ row. row ∷ rows_of (map (object_after_set calls) os)) (row_after_calls calls (object_after_release o))
    ∙ ap (λ rows. o.row ∷ rows) (rows_of-after calls os)

pub held_count-after : (calls : List Call) (os : List ObjectState) →
    held_count (map (object_after_set calls) os) ≡ 0
held_count-after calls [] = refl
held_count-after calls (o ∷ os) =
    omega (arith, held_count-after calls os, ap (length {A = Reservation}) (reserved_after_calls calls (object_after_release o)))

pub held_count-released : (os : List ObjectState) → held_count (map object_after_release os) ≡ 0
held_count-released [] = refl
held_count-released (o ∷ os) = omega (arith, held_count-released os)

-- A world that did not change differs in no setting.
pub kept_itself : (w new : World) → new ≡ w → new ≡ with_settings_of new w
kept_itself w new same =
    same ∙ with_itself w ∙ ap (λ (v : World). with_settings_of v w) (sym same)
