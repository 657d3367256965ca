-- What a view is seen by: the rows of its families, among those of other views, and its name.
use Rattle.std.specs.Prelude.{ℕ, List}
use Rattle.vacm_core.specs.declared.tables.FamilyRow.{FamilyRow}

pub record ViewRows : Type 0 where
  pub families : List FamilyRow
  pub view : List ℕ
