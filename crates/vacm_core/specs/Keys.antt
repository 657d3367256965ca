-- Rows in the order of their keys, each of which is a number and a name.
use Rattle.std.specs.Prelude.{ℕ, ◌<◌, Bool, List, [], length, slice_get, Option, Some, None, All, Contains}
use Rattle.std.specs.Cmp.Lexicographic.{slice_cmp}
use Rattle.std.specs.Ordering.{nat_cmp, ordering_then, is_lt}
use Rattle.std.specs.List.Sorted.{IsSortedBy}
use Rattle.std.specs.declared.cmp.Ordering.{Ordering}
use Rattle.vacm_core.specs.declared.tables.GroupRow.{GroupRow}
use Rattle.vacm_core.specs.declared.tables.AccessRow.{AccessRow}
use Rattle.vacm_core.specs.declared.tables.FamilyRow.{FamilyRow}
use Rattle.vacm_core.specs.FamilyIndex.{family_index}

-- by the number, and then by the name
abbrev pub key_cmp : ℕ × List ℕ → ℕ × List ℕ → Ordering
key_cmp a b = ordering_then (nat_cmp a.0 b.0) (slice_cmp nat_cmp a.1 b.1)

abbrev pub key_or : {R : Type 0} → (R → ℕ × List ℕ) → Option R → ℕ × List ℕ
key_or key (Some row) = key row
key_or key None = (0, [])

-- the key of the row of this number
abbrev pub key_at : {R : Type 0} → (R → ℕ × List ℕ) → List R → ℕ → ℕ × List ℕ
key_at key rows n = key_or key (slice_get rows n)

abbrev pub key_before : {R : Type 0} → (R → ℕ × List ℕ) → List R → ℕ → ℕ → Bool
key_before key rows a b = is_lt (key_cmp (key_at key rows a) (key_at key rows b))

-- the numbers of all rows, in the order of their keys
pub record IsIndex {R : Type 0} (key : R → ℕ × List ℕ) (rows : List R) (numbers : List ℕ) : Type 0 where
  pub sorted : IsSortedBy (key_before key rows) numbers
  pub within : All (λ n. n < length rows) numbers
  pub all : (n : ℕ) → n < length rows → Contains numbers n

-- a group row is found by its model and its name
abbrev pub group_key : GroupRow → ℕ × List ℕ
group_key row = (row.model, row.name)

-- an access row by its group alone
abbrev pub access_key : AccessRow → ℕ × List ℕ
access_key row = (0, row.group)

-- a family row by its view alone
abbrev pub view_key : FamilyRow → ℕ × List ℕ
view_key row = (0, row.view)

-- and by its index
abbrev pub index_key : FamilyRow → ℕ × List ℕ
index_key row = (0, family_index row)
