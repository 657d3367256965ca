-- Where an index stands among static rows by rising index.
use Rattle.std.specs.Prelude.{◌≡◌, ℕ, ◌+◌, ◌<◌, ◌≤◌, Bool, List, length, take, drop, Some, None}
use Rattle.std.specs.List.{HoldsAt}
use Rattle.std.specs.Ordering.{nat_cmp, is_gt}
use Rattle.std.specs.Cmp.Lexicographic.{slice_cmp}
use Rattle.frame_core.specs.declared.mac.Mac.{Mac}
use Rattle.fdb_core.specs.declared.static_row.StaticIndex.{StaticIndex}
use Rattle.fdb_core.specs.declared.static_row.StaticRow.{StaticRow}
use Rattle.fdb_core.specs.Statics.{numbers_of, rows_below, rows_above, row_of}

-- the index's row stands at this place, between those of lower and those of higher indexes
pub record IsRowAt (rows : List StaticRow) (i : StaticIndex) (place : ℕ) : Type 0 where
  pub within : place < length rows
  pub row : HoldsAt (λ r. row_of rows i ≡ Some r) rows place
  pub before : take place rows ≡ rows_below rows i
  pub behind : drop (place + 1) rows ≡ rows_above rows i

-- the index has no row, and its place is between those of lower and those of higher indexes
pub record IsGapAt (rows : List StaticRow) (i : StaticIndex) (place : ℕ) : Type 0 where
  pub within : place ≤ length rows
  pub row : row_of rows i ≡ None
  pub before : take place rows ≡ rows_below rows i
  pub behind : drop place rows ≡ rows_above rows i

-- the index is one of the address or behind those, where it too has six octets
abbrev pub is_from : Mac → StaticIndex → Bool
is_from address i = is_gt (slice_cmp nat_cmp (numbers_of i) address.0)
