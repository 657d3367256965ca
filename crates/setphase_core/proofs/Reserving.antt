-- A world that is sure of memory for other static rows: nothing else of it differs.
use Rattle.std.proofs.Common.{◌≡◌, ℕ, ◌+◌, ◌<◌, ◌≤◌, ◌∙◌, sym, ap, subst, refl, Bool, true, false, cond, List, [], ◌∷◌, ◌++◌, length, max, arith, Option, Some, None}
use Rattle.fdb_core.specs.Statics.{with_places_for}
use Rattle.bridge_core.specs.Bridge.{BridgeState}
use Rattle.setting_keys.specs.declared.SettingKey.{SettingKey}
use Rattle.setting_keys.specs.declared.SettingKey.TheVariants.{Bridge, Made, Allowed, FamilyMask, FamilyType}
use Rattle.setting_keys.specs.declared.SettingValue.{SettingValue}
use Rattle.setting_keys.specs.declared.SettingValue.TheVariants.{Number, Ports, Mask}
use Rattle.setphase_core.specs.declared.object.Assignment.{Assignment}
use Rattle.setphase_core.specs.declared.staging.Staged.{Staged}
use Rattle.setphase_core.specs.declared.world.World.{World}
use Rattle.setphase_core.specs.Objects.{ObjectState}
use Rattle.setphase_core.specs.Outcomes.{world_by, stuck, has_key, firsts, committed_of, keys_of}
use Rattle.setphase_core.specs.Settings.{put, same_settings_of, HasSetting, IsSettingInRange}
use Rattle.setphase_core.specs.Staging.{IsUnderWay, HasSpaceFor, assignments_of, static_count, entry_at}
use Rattle.setphase_core.specs.Together.{assign, assignments}
use Rattle.setphase_core.specs.Variables.{NamedAssignment}
use Rattle.setphase_core.proofs.Space.{places-assign}

abbrev pub bridge_with : ℕ → BridgeState → BridgeState
bridge_with places b = record b { statics = record b.statics { places = places } }

abbrev pub with_places : ℕ → World → World
with_places places w = record w { bridge = bridge_with places w.bridge }

put_with : (p : ℕ) (w : World) (k : SettingKey) (v : SettingValue) →
    put (with_places p w) k v ≡ with_places p (put w k v)
put_with p w (Bridge k) (Number a) = refl
put_with p w (Bridge k) (Ports s) = refl
put_with p w (Bridge k) (Mask m) = refl
put_with p w (Made i) (Number a) = refl
put_with p w (Made i) (Ports s) = refl
put_with p w (Made i) (Mask m) = refl
put_with p w (Allowed i) (Number a) = refl
put_with p w (Allowed i) (Ports s) = refl
put_with p w (Allowed i) (Mask m) = refl
put_with p w (FamilyMask n) (Number a) = refl
put_with p w (FamilyMask n) (Ports s) = refl
put_with p w (FamilyMask n) (Mask m) = refl
put_with p w (FamilyType n) (Number a) = refl
put_with p w (FamilyType n) (Ports s) = refl
put_with p w (FamilyType n) (Mask m) = refl

pub assign_with : (p : ℕ) (ps : List Assignment) (w : World) →
    assign ps (with_places p w) ≡ with_places p (assign ps w)
assign_with p [] w = refl
assign_with p (a ∷ ps) w =
    ap (assign ps) (put_with p w a.key a.value) ∙ assign_with p ps (put w a.key a.value)

static_with : (p : ℕ) (w : World) (k : SettingKey) → HasSetting w k → HasSetting (with_places p w) k
static_with p w (Bridge k) h = h
static_with p w (Made i) h = record {
  index = record { address = h.index.address; port = h.index.port; foreign = h.index.foreign; unreserved = h.index.unreserved };
  rows = record { rising = h.rows.rising; rows = h.rows.rows };
}
static_with p w (Allowed i) h = record {
  index = record { address = h.index.address; port = h.index.port; foreign = h.index.foreign; unreserved = h.index.unreserved };
  rows = record { rising = h.rows.rising; rows = h.rows.rows };
}
static_with p w (FamilyMask n) h = h
static_with p w (FamilyType n) h = h

range_with : (p : ℕ) (w : World) (k : SettingKey) (v : SettingValue) → IsSettingInRange w k v →
    IsSettingInRange (with_places p w) k v
range_with p w (Bridge k) (Number a) h = h
range_with p w (Bridge k) (Ports s) h = h
range_with p w (Bridge k) (Mask m) h = h
range_with p w (Made i) (Number a) h = h
range_with p w (Made i) (Ports s) h = h
range_with p w (Made i) (Mask m) h = h
range_with p w (Allowed i) (Number a) h = h
range_with p w (Allowed i) (Ports s) h = h
range_with p w (Allowed i) (Mask m) h = h
range_with p w (FamilyMask n) (Number a) h = h
range_with p w (FamilyMask n) (Ports s) h = h
range_with p w (FamilyMask n) (Mask m) h = h
range_with p w (FamilyType n) (Number a) h = h
range_with p w (FamilyType n) (Ports s) h = h
range_with p w (FamilyType n) (Mask m) h = h

-- A Set that is under way is so in the other world.
pub under_way_with : (p : ℕ) (w : World) (os : List ObjectState) (es : List Staged) (tested committed : ℕ) →
    IsUnderWay w os es tested committed → IsUnderWay (with_places p w) os es tested committed
under_way_with p w os es tested committed h = record {
  few = h.few;
  counted = h.counted;
  distinct = h.distinct;
  reserved = λ k below.
      let e = entry_at es k in
      let r = h.reserved k below in
      record {
        within = r.within;
        reserved = record {
          key = static_with p w e.slot.key r.reserved.key;
          value = range_with p w e.slot.key e.slot.value r.reserved.value;
          place = r.reserved.place;
          old = r.reserved.old;
          stands = r.reserved.stands;
        };
      };
  undoable = λ k below.
      let e = entry_at es k in
      let r = h.undoable k below in
      record {
        within = r.within;
        before = r.before;
        committed = record {
          key = static_with p w e.slot.key r.committed.key;
          value = range_with p w e.slot.key r.before r.committed.value;
          place = r.committed.place;
          stands = r.committed.stands;
        };
      };
}

-- Once as many places were asked for as it stages static settings, there is memory for all.
pub space_with : (w : World) (ps : List Assignment) (v : World) →
    v ≡ record w { bridge = record w.bridge { statics = with_places_for (static_count ps) w.bridge.statics } } →
    HasSpaceFor v ps
space_with w ps v is =
    subst (λ (u : World). HasSpaceFor u ps) (sym is)
    (λ some. enough w.bridge.statics.places (length w.bridge.statics.rows + static_count ps))
  where
    enough : (a b : ℕ) → b ≤ max a b
    enough a b = omega arith

-- The world after a Set, by what the variables give.
pub after_with : (p : ℕ) (ws : List NamedAssignment) (w : World) (commit : Option ℕ) (undos : List SettingKey) →
    world_by ws (with_places p w) commit undos ≡ with_places p (world_by ws w commit undos)
after_with p ws w None undos = assign_with p (assignments ws) w
after_with p ws w (Some i) undos = assign_with p (assignments (stuck ws i undos)) w

pub after_places : (ws : List NamedAssignment) (w : World) (commit : Option ℕ) (undos : List SettingKey) →
    (world_by ws w commit undos).bridge.statics.places ≡ w.bridge.statics.places
after_places ws w None undos = places-assign (assignments ws) w
after_places ws w (Some i) undos = places-assign (assignments (stuck ws i undos)) w

-- ---- the first variable of each setting writes a static one where any does

firsts_static : (earlier ws : List NamedAssignment) →
    static_count (assignments (firsts earlier ws)) ≤ static_count (assignments ws)
firsts_static earlier [] = omega arith
firsts_static earlier (x ∷ ws) = pick (has_key (keys_of earlier) x.assignment.key) (firsts_static (earlier ++ x ∷ []) ws)
  where
    pick : (b : Bool) → static_count (assignments (firsts (earlier ++ x ∷ []) ws)) ≤ static_count (assignments ws) →
        static_count (assignments ((cond b [] (x ∷ [])) ++ firsts (earlier ++ x ∷ []) ws)) ≤ static_count (assignments (x ∷ ws))
    pick true less = omega (arith, less)
    pick false less = omega (arith, less)

pub some_static : (ws : List NamedAssignment) (es : List Staged) → assignments_of es ≡ assignments (committed_of ws) →
    0 < static_count (assignments_of es) → 0 < static_count (assignments ws)
some_static ws es is some =
    omega (arith, some, ap static_count is, firsts_static [] ws)

-- ---- the other world, and back

pub same_with : (p : ℕ) (w v : World) → same_settings_of w v ≡ same_settings_of (with_places p w) (with_places p v)
same_with p w v = refl

pub places_back : (p q : ℕ) (w : World) → p ≡ w.bridge.statics.places → with_places p (with_places q w) ≡ w
places_back p q w is = ap (λ (n : ℕ). with_places n w) is
