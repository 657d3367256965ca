-- Family rows of which one is changed.
use Rattle.std.specs.Prelude.{ℕ, Bool, List, slice_get, slice_set, Option, Some, None, option_map}
use Rattle.vacm_core.specs.declared.tables.FamilyRow.{FamilyRow}

-- the row that is given, where one is, stands in the place of that of this number
abbrev pub with_row : List FamilyRow → ℕ → Option FamilyRow → List FamilyRow
with_row rows n (Some row) = slice_set rows n row
with_row rows n None = rows

-- the row with another mask, or another type
abbrev pub masked : List ℕ → FamilyRow → FamilyRow
masked mask row = record row { mask = mask }

abbrev pub typed : Bool → FamilyRow → FamilyRow
typed included row = record row { included = included }

-- the row of this number has this mask, and all else is as before
abbrev pub with_mask : List FamilyRow → ℕ → List ℕ → List FamilyRow
with_mask rows n mask = with_row rows n (option_map (masked mask) (slice_get rows n))

-- the row of this number has this type, included or not, and all else is as before
abbrev pub with_type : List FamilyRow → ℕ → Bool → List FamilyRow
with_type rows n included = with_row rows n (option_map (typed included) (slice_get rows n))
