-- What an object shows: values by index (RFC 2578, section 7.7). Indexes are in the order of names.
use Rattle.std.specs.Prelude.{ℕ, ◌+◌, nat_le, ◌&&◌, if◌then◌else◌, List, [], ◌∷◌, map, find, slice_get, Option, Some, None}
use Rattle.std.specs.Option.{option_map}
use Rattle.std.proofs.Common.{zero, suc}
use Rattle.fdb_core.specs.declared.row.LearnedRow.{LearnedRow}
use Rattle.fdb_core.specs.declared.static_row.StaticRow.{StaticRow}
use Rattle.fdb_core.specs.Statics.{numbers_of, made_rows}
use Rattle.oid_core.specs.Order.{name_lt, name_eq}
use Rattle.vacm_core.specs.declared.tables.FamilyRow.{FamilyRow}
use Rattle.vacm_core.specs.FamilyIndex.{family_index, index_before}
use Rattle.message_core.specs.declared.value.Value.{Value}

-- The value of one instance, and what follows the object's name in its name.
pub record IndexedValue : Type 0 where
  pub index : List ℕ
  pub value : Value

-- The one instance of a scalar has index 0.
abbrev pub scalar : Value → List IndexedValue
scalar v = record { index = 0 ∷ []; value = v } ∷ []

-- So many numbers from the first on.
abbrev pub numbers_from : ℕ → ℕ → List ℕ
numbers_from first zero = []
numbers_from first (suc count) = first ∷ numbers_from (first + 1) count

-- The instances of a table of so many ports have the ports' numbers for index, from 1 on.
abbrev pub by_port : ℕ → (ℕ → Value) → List IndexedValue
by_port count f = map (λ n. record { index = n ∷ []; value = f n }) (numbers_from 1 count)

-- The port, of so many, whose number is an index.
abbrev pub port_index : ℕ → List ℕ → Option ℕ
port_index count (n ∷ []) = if nat_le 1 n && nat_le n count then Some n else None
port_index count at = None

-- The instances of a table of learned addresses have the six octets of the address for index.
abbrev pub by_address : List LearnedRow → (LearnedRow → Value) → List IndexedValue
by_address rows f = map (λ r. record { index = r.address.0; value = f r }) rows

-- The instances of a table of static rows are those of the made rows, and have the seven numbers of
-- the row for index: the octets of its address, and its port.
abbrev pub by_static : List StaticRow → (StaticRow → Value) → List IndexedValue
by_static rows f = map (λ r. record { index = numbers_of r.index; value = f r }) (made_rows rows)

-- A row in front of the first whose index is not before its own.
abbrev pub with_row : FamilyRow → List FamilyRow → List FamilyRow
with_row row [] = row ∷ []
with_row row (next ∷ rows) =
    if index_before next row then next ∷ with_row row rows else row ∷ next ∷ rows

-- The rows of the table of families by rising index, in whatever order they are kept.
abbrev pub in_index_order : List FamilyRow → List FamilyRow
in_index_order [] = []
in_index_order (row ∷ rows) = with_row row (in_index_order rows)

-- The instances of the table of families have for index the length of the view's name, its octets,
-- the length of the subtree, and its numbers (RFC 3415, vacmViewTreeFamilyTable).
abbrev pub by_family : List FamilyRow → (FamilyRow → Value) → List IndexedValue
by_family rows f = map (λ r. record { index = family_index r; value = f r }) (in_index_order rows)

-- The value under an index, if an instance has it.
abbrev pub value_at : List IndexedValue → List ℕ → Option Value
value_at shown at = option_map (λ s. s.value) (find (λ s. name_eq s.index at) shown)

-- The first instance after an index, or the first of all.
abbrev pub first_after : List IndexedValue → Option (List ℕ) → Option IndexedValue
first_after shown None = slice_get shown 0
first_after shown (Some after) = find (λ s. name_lt after s.index) shown

-- Its index.
abbrev pub index_after : List IndexedValue → Option (List ℕ) → Option (List ℕ)
index_after shown after = option_map (λ s. s.index) (first_after shown after)
