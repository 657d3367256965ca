-- The tables of RFC 3415 as they are kept: four lists of rows.
use Rattle.std.specs.Prelude.{◌≡◌, ℕ, pos, Bool, true, false, ◌&&◌, List, map, All, AllPairs}
use Rattle.vacm_core.specs.declared.tables.GroupRow.{GroupRow}
use Rattle.vacm_core.specs.declared.tables.AccessRow.{AccessRow}
use Rattle.vacm_core.specs.declared.tables.FamilyRow.{FamilyRow}
use Rattle.vacm_core.specs.declared.written.VacmRows.{VacmRows}
use Rattle.vacm_core.specs.declared.written.WrittenGroup.{WrittenGroup}
use Rattle.vacm_core.specs.declared.written.WrittenAccess.{WrittenAccess}
use Rattle.vacm_core.specs.declared.written.WrittenFamily.{WrittenFamily}
use Rattle.vacm_core.specs.Levels.{level_number}
use Rattle.vacm_core.specs.Rules.{Rules}
use Rattle.vacm_core.specs.Rows.{group_row, access_row, family_row, same_group, same_access, same_family, group_rules, access_rules, family_rules, context_rules}

pub record Tables : Type 0 where
  pub groups : List GroupRow
  pub access : List AccessRow
  pub families : List FamilyRow
  pub contexts : List (List ℕ)

-- no two rows have one key
abbrev pub KeysDiffer : {R : Type 0} → (R → R → Bool) → List R → Type 0
KeysDiffer same_key rows = AllPairs (λ a b. same_key a b ≡ false) rows

-- ---- kept rows as they are written

abbrev pub written_group : GroupRow → WrittenGroup
written_group row = record { model = pos row.model; name = row.name; group = row.group }

abbrev pub written_access : AccessRow → WrittenAccess
written_access row = record {
  group = row.group;
  prefix = row.prefix;
  model = pos row.model;
  level = pos (level_number row.level);
  exact = row.exact;
  read = row.read;
  write = row.write;
  notify = row.notify;
}

abbrev pub written_family : FamilyRow → WrittenFamily
written_family row =
    record { view = row.view; subtree = row.subtree; mask = row.mask; included = row.included }

-- its lengths and its fields are right
abbrev pub is_well_formed : {W R : Type 0} → Rules W R → W → Bool
is_well_formed rules w = rules.lengths w && rules.fields w

-- the lengths and the fields of each kept row are right as it is written
abbrev pub AreWellFormed : {W R : Type 0} → Rules W R → (R → W) → List R → Type 0
AreWellFormed rules written rows = All (λ row. is_well_formed rules (written row) ≡ true) rows

-- what holds of the tables that are kept: no two rows have one key, and each row is well formed
pub record IsSound (t : Tables) : Type 0 where
  pub groups : KeysDiffer same_group t.groups
  pub access : KeysDiffer same_access t.access
  pub families : KeysDiffer same_family t.families
  pub group_rows : AreWellFormed group_rules written_group t.groups
  pub access_rows : AreWellFormed access_rules written_access t.access
  pub family_rows : AreWellFormed family_rules written_family t.families
  pub context_rows : AreWellFormed context_rules (λ w. w) t.contexts

-- the tables as they are written
abbrev pub rows_of : Tables → VacmRows
rows_of t = record {
  groups = map written_group t.groups;
  access = map written_access t.access;
  families = map written_family t.families;
  contexts = t.contexts;
}

-- the rows that the written rows stand for
abbrev pub tables_of : VacmRows → Tables
tables_of rows = record {
  groups = map group_row rows.groups;
  access = map access_row rows.access;
  families = map family_row rows.families;
  contexts = rows.contexts;
}
