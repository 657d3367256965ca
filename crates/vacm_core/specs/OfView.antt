-- The rows of a view in the order of their indexes (RFC 3415, vacmViewTreeFamilyTable): those with
-- shorter subtrees first, and of equal lengths the lexicographically smaller.
use Rattle.std.specs.Prelude.{◌≡◌, ℕ, ◌+◌, ◌≤◌, ◌<◌, Bool, true, false, List, [], ◌∷◌, ◌++◌, length, slice_get, slice_index_or, All, Contains, Option, Some, None}
use Rattle.std.specs.Ordering.{is_lt}
use Rattle.vacm_core.specs.declared.tables.FamilyRow.{FamilyRow}
use Rattle.vacm_core.specs.Families.{matches}
use Rattle.vacm_core.specs.FamilyIndex.{index_before}
use Rattle.vacm_core.specs.Keys.{key_cmp, key_at, index_key}

-- how the indexes begin of rows of this view whose subtrees have so many numbers
abbrev pub index_front : List ℕ → ℕ → List ℕ
index_front view long = length view ∷ (view ++ long ∷ [])

-- the index of the row of this number is less than such a front; no row comes before any
abbrev pub is_before : List FamilyRow → List ℕ → ℕ → ℕ → Bool
is_before rows view long n = is_lt (key_cmp (key_at index_key rows n) (0, index_front view long))

-- numbers of rows, among which are those of a view with at most so many numbers in their subtrees,
-- and of which none has an index that comes before that of an earlier one
pub record AreOfView (rows : List FamilyRow) (view : List ℕ) (most : ℕ) (numbers : List ℕ) : Type 0 where
  pub within : All (λ n. n < length rows) numbers
  pub all : (n : ℕ) (row : FamilyRow) → slice_get rows n ≡ Some row → row.view ≡ view → length row.subtree ≤ most → Contains numbers n
  pub rising : (i j d : ℕ) (a b : FamilyRow) → i ≤ j → j < length numbers
      → slice_get rows (slice_index_or numbers i d) ≡ Some a → slice_get rows (slice_index_or numbers j d) ≡ Some b → index_before b a ≡ false

-- a row is of a view and has a name
abbrev pub is_match : List ℕ → List ℕ → Option FamilyRow → Bool
is_match view name (Some row) = matches view name row
is_match view name None = false

-- from a place on, none of the rows of these numbers is of the view and has the name
abbrev pub HaveNot : List FamilyRow → List ℕ → List ℕ → List ℕ → ℕ → Type 0
HaveNot rows view name numbers from =
    (k d : ℕ) → from ≤ k → k < length numbers → is_match view name (slice_get rows (slice_index_or numbers k d)) ≡ false

-- of the rows of these numbers, that of this number is the last that is of the view and has the name
pub record IsLastAt (rows : List FamilyRow) (view name numbers : List ℕ) (n : ℕ) : Type 0 where
  pub place : ℕ
  pub inside : place < length numbers
  pub here : slice_index_or numbers place n ≡ n
  pub passes : is_match view name (slice_get rows n) ≡ true
  pub behind : HaveNot rows view name numbers (place + 1)

-- that one, or none
abbrev pub IsLastMatch : List FamilyRow → List ℕ → List ℕ → List ℕ → Option ℕ → Type 0
IsLastMatch rows view name numbers (Some n) = IsLastAt rows view name numbers n
IsLastMatch rows view name numbers None = HaveNot rows view name numbers 0
