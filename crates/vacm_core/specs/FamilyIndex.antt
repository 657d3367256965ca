-- The rows of vacmViewTreeFamilyTable by their INDEX (RFC 3415, section 4): a view's name and a
-- subtree, each of which is preceded by its length (RFC 2578, section 7.7).
use Rattle.std.specs.Prelude.{◌≡◌, ℕ, Bool, List, ◌∷◌, ◌++◌, map, length, bytes_eq, Option, position}
use Rattle.std.specs.Cmp.Lexicographic.{slice_cmp}
use Rattle.std.specs.Ordering.{nat_cmp, is_lt, is_gt}
use Rattle.vacm_core.specs.declared.tables.FamilyRow.{FamilyRow}
use Rattle.vacm_core.specs.Best.{unbeaten}

-- how many octets the view's name has, those, how many numbers the subtree has, those
abbrev pub family_index : FamilyRow → List ℕ
family_index row = length row.view ∷ (row.view ++ length row.subtree ∷ row.subtree)

-- by the first number that differs, a proper prefix first
abbrev pub index_before : FamilyRow → FamilyRow → Bool
index_before a b = is_lt (slice_cmp nat_cmp (family_index a) (family_index b))

-- the row's index is greater than these numbers
abbrev pub is_behind : List ℕ → FamilyRow → Bool
is_behind numbers row = is_gt (slice_cmp nat_cmp (family_index row) numbers)

-- the place of the row of the least index that is greater than these numbers
abbrev pub next_family : List FamilyRow → List ℕ → Option ℕ
next_family rows numbers = unbeaten (is_behind numbers) index_before rows

-- the row's index is these numbers
abbrev pub has_index : List ℕ → FamilyRow → Bool
has_index numbers row = bytes_eq (family_index row) numbers

-- the place of the row of this index
abbrev pub family_at : List FamilyRow → List ℕ → Option ℕ
family_at rows numbers = position (has_index numbers) rows

-- each row has the index that it had, and by any numbers the same row is found
pub record HaveSameIndexes (before after : List FamilyRow) : Type 0 where
  pub indexes : map family_index after ≡ map family_index before
  pub next : (numbers : List ℕ) → next_family after numbers ≡ next_family before numbers
  pub at : (numbers : List ℕ) → family_at after numbers ≡ family_at before numbers
