-- The table of learned addresses.
use Rattle.std.specs.Prelude.{ℕ, ◌≤◌, List, length}
use Rattle.fdb_core.specs.declared.row.LearnedRow.{LearnedRow}
use Rattle.fdb_core.specs.Rows.{IsRising, IsYoung, HaveAddresses}

-- the rows, and the most rows that there may be
pub record Table : Type 0 where
  pub rows : List LearnedRow
  pub limit : ℕ

-- what holds of every table
pub record IsTable (t : Table) : Type 0 where
  pub rising : IsRising t.rows
  pub young : IsYoung t.rows
  pub addresses : HaveAddresses t.rows
  pub few : length t.rows ≤ t.limit
