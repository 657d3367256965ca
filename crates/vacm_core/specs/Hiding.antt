-- Whether a view is seen to hide each name that begins with a prefix, by its rows alone (RFC 3415,
-- vacmViewTreeFamilyTable). 'Below' means such names, the prefix itself among them.
use Rattle.std.specs.Prelude.{ℕ, Bool, not, ◌&&◌, ◌||◌, List, length, take, bytes_eq}
use Rattle.std.specs.List.{list_any, list_all}
use Rattle.vacm_core.specs.declared.tables.FamilyRow.{FamilyRow}
use Rattle.vacm_core.specs.Families.{agrees_from, matches, family_beats}

-- the row is of this view, and its subtree agrees with the prefix as far as both reach: its family
-- may have a name below
abbrev pub may_match : List ℕ → List ℕ → FamilyRow → Bool
may_match view prefix row =
    bytes_eq row.view view && agrees_from 0 row.mask (take (length prefix) row.subtree) prefix

-- the row includes its family, which may have a name below
abbrev pub may_include : List ℕ → List ℕ → FamilyRow → Bool
may_include view prefix row = row.included && may_match view prefix row

-- the row excludes its family, which has the prefix itself, and so each name below
abbrev pub excludes_all : List ℕ → List ℕ → FamilyRow → Bool
excludes_all view prefix row = not row.included && matches view prefix row

-- it beats each row that may include a name below
abbrev pub beats_included : List FamilyRow → List ℕ → List ℕ → FamilyRow → Bool
beats_included families view prefix row =
    list_all (λ other. not (may_include view prefix other) || family_beats row other) families

-- no row may include a name below, or a row that excludes them all beats each row that may
unfoldable pub hides_all : List FamilyRow → List ℕ → List ℕ → Bool
hides_all families view prefix =
    not (list_any (may_include view prefix) families)
    || list_any (λ row. excludes_all view prefix row && beats_included families view prefix row) families
