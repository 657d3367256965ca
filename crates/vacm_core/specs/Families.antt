-- Whether a name is in a view (RFC 3415, vacmViewTreeFamilyTable, and isAccessAllowed's last step
-- in section 3.2).
use Rattle.std.specs.Prelude.{ℕ, ◌<◌, ◌+◌, ◌-◌, ◌/◌, ◌%◌, ◌^◌, ◌==◌, Bool, true, false, not, ◌&&◌, ◌||◌, if◌then◌else◌, List, [], ◌∷◌, length, slice_index, slice_get, nat_lt, bytes_eq, Option, Some, None}
use Rattle.std.specs.Cmp.Lexicographic.{slice_cmp}
use Rattle.std.specs.Ordering.{nat_cmp, ordering_then, is_lt}
use Rattle.std.specs.declared.cmp.Ordering.{Ordering}
use Rattle.vacm_core.specs.declared.tables.FamilyRow.{FamilyRow}
use Rattle.vacm_core.specs.declared.verdict.FamilyAnswer.{FamilyAnswer}
use Rattle.vacm_core.specs.declared.verdict.FamilyAnswer.TheVariants.{Included, Excluded, NoRow}
use Rattle.vacm_core.specs.Best.{unbeaten}

-- the k-th bit of a mask: the first is the top bit of the first octet, and a short mask is extended
-- by ones
abbrev pub mask_bit : List ℕ → ℕ → Bool
mask_bit mask k = if nat_lt (k / 8) (length mask) then (slice_index mask (k / 8) / 2 ^ (7 - k % 8) % 2 == 1) else true

-- the k-th part of a subtree is that of a name, or its bit is 0
abbrev pub agrees_with : List ℕ → ℕ → ℕ → Option ℕ → Bool
agrees_with mask k part (Some asked) = not (mask_bit mask k) || part == asked
agrees_with mask k part None = false

abbrev pub agrees_at : List ℕ → ℕ → ℕ → List ℕ → Bool
agrees_at mask k part name = agrees_with mask k part (slice_get name k)

-- from the k-th bit on, the name is at least as long as the subtree, and equal to it wherever the
-- bit is 1
abbrev pub agrees_from : ℕ → List ℕ → List ℕ → List ℕ → Bool
agrees_from k mask [] name = true
agrees_from k mask (s ∷ subtree) [] = false
agrees_from k mask (s ∷ subtree) (n ∷ name) =
    (not (mask_bit mask k) || s == n) && agrees_from (k + 1) mask subtree name

-- the row is of this view, and its family has this name
abbrev pub matches : List ℕ → List ℕ → FamilyRow → Bool
matches view name row = bytes_eq row.view view && agrees_from 0 row.mask row.subtree name

-- by the length of the subtree, and then by the subtree
abbrev pub family_cmp : FamilyRow → FamilyRow → Ordering
family_cmp a b = ordering_then (nat_cmp (length a.subtree) (length b.subtree)) (slice_cmp nat_cmp a.subtree b.subtree)

-- the longer subtree, and of equal lengths the lexicographically greater
abbrev pub family_beats : FamilyRow → FamilyRow → Bool
family_beats a b = is_lt (family_cmp b a)

-- the place of the row of the view that decides on a name
abbrev pub deciding_family : List FamilyRow → List ℕ → List ℕ → Option ℕ
deciding_family families view name = unbeaten (matches view name) family_beats families

abbrev pub by_type : ℕ → Option FamilyRow → FamilyAnswer
by_type n (Some row) = if row.included then Included n else Excluded n
by_type n None = NoRow

abbrev pub by_family : List FamilyRow → Option ℕ → FamilyAnswer
by_family families (Some n) = by_type n (slice_get families n)
by_family families None = NoRow

-- what decides on a name, and how
abbrev pub family_answer : List FamilyRow → List ℕ → List ℕ → FamilyAnswer
family_answer families view name = by_family families (deciding_family families view name)

-- whether an answer says that a name is in the view
abbrev pub is_included : FamilyAnswer → Bool
is_included (Included n) = true
is_included (Excluded n) = false
is_included NoRow = false

-- whether a name is in a view
abbrev pub in_view : List FamilyRow → List ℕ → List ℕ → Bool
in_view families view name = is_included (family_answer families view name)

-- the family row that an answer names is one of these
abbrev pub NamesFamilyOf : List FamilyRow → FamilyAnswer → Type 0
NamesFamilyOf rows (Included n) = n < length rows
NamesFamilyOf rows (Excluded n) = n < length rows
NamesFamilyOf rows NoRow = Unit {0}
