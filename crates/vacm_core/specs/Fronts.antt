-- The shortest front of a name under which the answer on it holds for every name (RFC 3415,
-- vacmViewTreeFamilyTable). A front is the first numbers of a name, and goes by how many they are.
use Rattle.std.specs.Prelude.{◌≡◌, ℕ, ◌+◌, ◌<◌, ◌≤◌, ◌==◌, max, Bool, true, not, ◌&&◌, ◌||◌, if◌then◌else◌, List, [], ◌∷◌, length, take, bytes_eq, slice_get, Option, Some, None, option_map}
use Rattle.oid_core.specs.Order.{is_prefix}
use Rattle.vacm_core.specs.declared.tables.FamilyRow.{FamilyRow}
use Rattle.vacm_core.specs.Best.{takes_over}
use Rattle.vacm_core.specs.Families.{mask_bit, family_beats, family_answer}

-- the answer on a name holds for every name that begins with its first k numbers
abbrev pub HoldsUnder : List FamilyRow → List ℕ → List ℕ → ℕ → Type 0
HoldsUnder rows view name k =
    (other : List ℕ) → is_prefix (take k name) other ≡ true → family_answer rows view other ≡ family_answer rows view name

-- the name has so many numbers, the answer holds under them, and under no fewer
pub record IsLeastFront (rows : List FamilyRow) (view name : List ℕ) (k : ℕ) : Type 0 where
  pub within : k ≤ length name
  pub holds : HoldsUnder rows view name k
  pub least : (j : ℕ) → j < k → HoldsUnder rows view name j → ⊥

-- this front is the shortest under which the answer holds; where there is none, the answer does not
-- hold for every name that begins with the whole name
abbrev pub IsShortestFront : List FamilyRow → List ℕ → List ℕ → Option ℕ → Type 0
IsShortestFront rows view name (Some k) = IsLeastFront rows view name k
IsShortestFront rows view name None = HoldsUnder rows view name (length name) → ⊥

-- ---- inside the crate: the front by the rows

-- how many numbers of a name show that a subtree does not have it, with those before the k-th: up
-- to the first that differs where the bit is 1
abbrev pub front_apart : ℕ → List ℕ → List ℕ → List ℕ → Option ℕ
front_apart k mask [] name = None
front_apart k mask (s ∷ subtree) [] = None
front_apart k mask (s ∷ subtree) (n ∷ name) =
    if not (mask_bit mask k) || s == n then front_apart (k + 1) mask subtree name else Some (k + 1)

-- the row is of the view, and beats the row that decides, where one does
abbrev pub is_rival : List FamilyRow → List ℕ → Option ℕ → FamilyRow → Bool
is_rival rows view decides row = takes_over family_beats rows decides row && bytes_eq row.view view

-- a front that also shows that a row does not have the name, if the row is a rival
abbrev pub front_with : (FamilyRow → Bool) → List ℕ → ℕ → FamilyRow → Option ℕ
front_with rival name front row =
    if rival row then option_map (max front) (front_apart 0 row.mask row.subtree name) else Some front

-- the same of each of these rows
abbrev pub front_past : (FamilyRow → Bool) → List ℕ → Option ℕ → List FamilyRow → Option ℕ
front_past rival name None rows = None
front_past rival name (Some front) [] = Some front
front_past rival name (Some front) (row ∷ rows) = front_past rival name (front_with rival name front row) rows

-- how many numbers the subtree of a row has, where there is one
abbrev pub subtree_length : Option FamilyRow → ℕ
subtree_length (Some row) = length row.subtree
subtree_length None = 0

-- so many numbers show that the row that decides has the name, where one does
abbrev pub front_of_row : List FamilyRow → Option ℕ → ℕ
front_of_row rows (Some n) = subtree_length (slice_get rows n)
front_of_row rows None = 0
