-- Where an address stands among rows by rising address.
use Rattle.std.specs.Prelude.{◌≡◌, ℕ, ◌+◌, ◌<◌, ◌≤◌, List, length, take, drop, Some, None}
use Rattle.std.specs.List.{HoldsAt}
use Rattle.frame_core.specs.declared.mac.Mac.{Mac}
use Rattle.fdb_core.specs.declared.row.LearnedRow.{LearnedRow}
use Rattle.fdb_core.specs.Rows.{rows_below, rows_above, row_of}

-- the address's row stands at this place, between those of lower and those of higher addresses
pub record IsRowAt (rows : List LearnedRow) (address : Mac) (place : ℕ) : Type 0 where
  pub within : place < length rows
  pub has_address : HoldsAt (λ r. r.address ≡ address) rows place
  pub row : HoldsAt (λ r. row_of rows address ≡ Some r) rows place
  pub before : take place rows ≡ rows_below rows address
  pub behind : drop (place + 1) rows ≡ rows_above rows address

-- the address has no row, and its place is between those of lower and those of higher addresses
pub record IsGapAt (rows : List LearnedRow) (address : Mac) (place : ℕ) : Type 0 where
  pub within : place ≤ length rows
  pub row : row_of rows address ≡ None
  pub before : take place rows ≡ rows_below rows address
  pub behind : drop place rows ≡ rows_above rows address
