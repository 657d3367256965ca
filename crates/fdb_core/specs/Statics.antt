-- The static rows of a filtering database (IEEE 802.1D-2004 7.9.1; RFC 4188 dot1dStaticTable), by
-- rising index: a finite map from an address and a receive port to what is set of them.
use Rattle.std.specs.Prelude.{◌≡◌, ℕ, ◌+◌, ◌<◌, true, List, [], ◌∷◌, ◌++◌, length, filter, find, max, Option, Some, None}
use Rattle.std.specs.List.Sorted.{IsStrictlySortedBy}
use Rattle.std.specs.Ordering.{nat_cmp, is_lt, is_eq, is_gt}
use Rattle.std.specs.declared.cmp.Ordering.{Ordering}
use Rattle.std.specs.declared.cmp.Ordering.TheVariants.{Greater}
use Rattle.std.specs.Cmp.Lexicographic.{slice_cmp}
use Rattle.frame_core.specs.declared.mac.Mac.{Mac}
use Rattle.frame_core.specs.Octets.{same_mac}
use Rattle.fdb_core.specs.declared.static_row.StaticIndex.{StaticIndex}
use Rattle.fdb_core.specs.declared.static_row.StaticRow.{StaticRow}

-- the seven numbers of an index: the six octets of the address, and the receive port
abbrev pub numbers_of : StaticIndex → List ℕ
numbers_of i = i.address.0 ++ i.port ∷ []

-- indexes are compared number by number
abbrev pub index_cmp : StaticIndex → StaticIndex → Ordering
index_cmp i j = slice_cmp nat_cmp (numbers_of i) (numbers_of j)

-- each index is below those of all later rows, so none comes twice
abbrev pub IsRising : List StaticRow → Type 0
IsRising rows = IsStrictlySortedBy (λ r s. index_cmp r.index s.index) rows

-- the rows of lower indexes, and those of higher ones
abbrev pub rows_below : List StaticRow → StaticIndex → List StaticRow
rows_below rows i = filter (λ r. is_lt (index_cmp r.index i)) rows

abbrev pub rows_above : List StaticRow → StaticIndex → List StaticRow
rows_above rows i = filter (λ r. is_gt (index_cmp r.index i)) rows

-- the row of an index
abbrev pub row_of : List StaticRow → StaticIndex → Option StaticRow
row_of rows i = find (λ r. is_eq (index_cmp r.index i)) rows

-- the rows of an address, by rising port
abbrev pub rows_of : List StaticRow → Mac → List StaticRow
rows_of rows address = filter (λ r. same_mac r.index.address address) rows

-- the rows with this one in its place, and the rows without that of an index
abbrev pub put_row : List StaticRow → StaticRow → List StaticRow
put_row rows row = rows_below rows row.index ++ row ∷ rows_above rows row.index

abbrev pub without_row : List StaticRow → StaticIndex → List StaticRow
without_row rows i = rows_below rows i ++ rows_above rows i

-- the rows that are made
abbrev pub made_rows : List StaticRow → List StaticRow
made_rows rows = filter (λ r. r.made) rows

-- the first made row whose seven numbers are greater than these
abbrev pub next_made : List StaticRow → List ℕ → Option StaticRow
next_made rows numbers =
    find (λ r. r.made) (filter (λ r. is_gt (slice_cmp nat_cmp (numbers_of r.index) numbers)) rows)

-- a made row of the table that is above some numbers
pub record IsMadeAbove (rows : List StaticRow) (numbers : List ℕ) (row : StaticRow) : Type 0 where
  pub there : row_of rows row.index ≡ Some row
  pub made : row.made ≡ true
  pub above : slice_cmp nat_cmp (numbers_of row.index) numbers ≡ Greater

-- A table: its rows, and for how many rows it is sure to have memory. A row that is put uses up
-- nothing of this promise: it holds as long as the rows are no more.
pub record Statics : Type 0 where
  pub rows : List StaticRow
  pub places : ℕ

-- a table without rows, which is sure of memory for none
abbrev pub no_statics : Statics
no_statics = record { rows = []; places = 0 }

-- the table is sure of memory for so many rows more
abbrev pub with_places_for : ℕ → Statics → Statics
with_places_for count t = record t { places = max t.places (length t.rows + count) }

-- A row may be put: there is one of its index, or a place for it.
abbrev pub HasPlaceFor : Statics → StaticIndex → Type 0
HasPlaceFor t i = row_of t.rows i ≡ None → length t.rows < t.places
