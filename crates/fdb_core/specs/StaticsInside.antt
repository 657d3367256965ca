-- What holds of the fields of each static table.
use Rattle.std.specs.Prelude.{ℕ, ◌≤◌, List}
use Rattle.fdb_core.specs.declared.static_row.StaticRow.{StaticRow}
use Rattle.fdb_core.specs.Statics.{IsRising}

-- the rows are by rising index, and the vector has capacity for as many as is promised
pub record IsKept (rows : List StaticRow) (capacity places : ℕ) : Type 0 where
  pub rising : IsRising rows
  pub promised : places ≤ capacity
