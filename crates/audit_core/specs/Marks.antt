-- Denied bindings as marks: the number of the binding, and the place of the key of its family in a
-- list of keys, in which each stands once.
use Rattle.std.specs.Prelude.{◌≡◌, ◌≢◌, ◌⊎◌, ℕ, ◌^◌, ◌<◌, ◌≤◌, ◌++◌, List, [], ◌∷◌, length, map, take, Option, Some, None, All, AllPairs, Contains, slice_get}
use Rattle.std.specs.List.{AllByRecursion}
use Rattle.audit_core.specs.declared.denied.Denied.{Denied}
use Rattle.audit_core.specs.declared.keys.FamilyKey.{FamilyKey}
use Rattle.audit_core.specs.declared.marks.Mark.{Mark}

-- the key at a place
abbrev pub key_at : List FamilyKey → Option ℕ → Option FamilyKey
key_at keys None = None
key_at keys (Some place) = slice_get keys place

-- what a mark stands for
abbrev pub denied_of : List FamilyKey → Mark → Denied
denied_of keys mark = record { index = mark.index; family = key_at keys mark.family }

abbrev pub marked : List FamilyKey → List Mark → List Denied
marked keys marks = map (denied_of keys) marks

-- there is a key at the place
abbrev pub IsPlaced : List FamilyKey → Option ℕ → Type 0
IsPlaced keys None = Unit {0}
IsPlaced keys (Some place) = place < length keys

-- the families of denied bindings
abbrev pub families : List Denied → List (Option FamilyKey)
families all = map (λ (denied : Denied). denied.family) all

-- No two of these keys are one.
abbrev pub Differ : List FamilyKey → Type 0
Differ keys = AllPairs (λ (a b : FamilyKey). a ≢ b) keys

-- None of these keys is this one.
abbrev pub AreOthers : FamilyKey → List FamilyKey → Type 0
AreOthers key others = All (λ (other : FamilyKey). other ≢ key) others

-- Each of these keys is that of the family of one of the denied bindings.
abbrev pub AreKeysOf : List Denied → List FamilyKey → Type 0
AreKeysOf all keys = All (λ (key : FamilyKey). Contains (families all) (Some key)) keys

-- Each place has a key, each key stands once, and each is the key of a mark.
pub record AreMarks (keys : List FamilyKey) (marks : List Mark) : Type 0 where
  pub placed : AllByRecursion (λ (mark : Mark). IsPlaced keys mark.family) marks
  pub once : Differ keys
  pub used : AreKeysOf (marked keys marks) keys

-- the first place at which a key stands where it is put behind the others
pub record IsPlaceFor (keys : List FamilyKey) (key : FamilyKey) (place : ℕ) : Type 0 where
  pub there : slice_get (keys ++ key ∷ []) place ≡ Some key
  pub first : AreOthers key (take place keys)

abbrev pub IsPlaceOf : List FamilyKey → Option FamilyKey → Option ℕ → Type 0
IsPlaceOf keys None None = Unit {0}
IsPlaceOf keys (Some key) (Some place) = IsPlaceFor keys key place
IsPlaceOf keys None (Some place) = ⊥
IsPlaceOf keys (Some key) None = ⊥

-- the mark of a denied binding
pub record IsMarkFor (keys : List FamilyKey) (denied : Denied) (mark : Mark) : Type 0 where
  pub index : mark.index ≡ denied.index
  pub family : IsPlaceOf keys denied.family mark.family

-- how many numbers 16 bits have, and so how many places
abbrev pub mark_numbers : ℕ
mark_numbers = 2 ^ 16

-- The place of a key does not fit 16 bits.
abbrev pub IsPlaceTooHigh : List FamilyKey → Option FamilyKey → Type 0
IsPlaceTooHigh keys None = ⊥
IsPlaceTooHigh keys (Some key) = (place : ℕ) × IsPlaceFor keys key place × (mark_numbers ≤ place)

-- The number of a denied binding, or the place of its key, does not fit 16 bits.
abbrev pub HasNoMark : List FamilyKey → Denied → Type 0
HasNoMark keys denied = (mark_numbers ≤ denied.index) ⊎ IsPlaceTooHigh keys denied.family

-- As many other keys as 16 bits have places are those of the denied bindings.
abbrev pub FillPlaces : List Denied → Option FamilyKey → Type 0
FillPlaces all None = ⊥
FillPlaces all (Some key) =
    (others : List FamilyKey) × Differ others × AreOthers key others × AreKeysOf all others
    × (mark_numbers ≤ length others)

-- A denied binding has no mark behind these: its number does not fit 16 bits, or the denied bindings
-- have as many other keys as there are places.
abbrev pub IsUnmarked : List Denied → Denied → Type 0
IsUnmarked all denied = (mark_numbers ≤ denied.index) ⊎ FillPlaces all denied.family

-- Denied bindings stand behind those that have marks: none, or the first has no mark.
abbrev pub AreUnmarked : List Denied → List Denied → Type 0
AreUnmarked all [] = Unit {0}
AreUnmarked all (denied ∷ more) = IsUnmarked all denied

-- The keys are as before, or one that is not among them stands behind them.
abbrev pub IsWith : List FamilyKey → Option FamilyKey → List FamilyKey → Type 0
IsWith old family new =
    (new ≡ old)
    ⊎ ((key : FamilyKey) × (family ≡ Some key) × AreOthers key old × (new ≡ old ++ key ∷ []))
