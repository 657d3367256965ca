-- The rows of learned addresses (IEEE 802.1D-2004, 7.9.2), by rising address.
use Rattle.std.specs.Prelude.{◌≡◌, ℕ, ◌+◌, ◌<◌, not, ◌==◌, nat_lt, List, length, filter, find, slice_get, Option, Some, None}
use Rattle.std.specs.List.{AllByRecursion, list_any}
use Rattle.std.specs.List.Sorted.{IsStrictlySortedBy}
use Rattle.std.specs.Option.{option_map}
use Rattle.std.specs.Ordering.{is_lt, is_eq, is_gt}
use Rattle.frame_core.specs.declared.mac.Mac.{Mac}
use Rattle.frame_core.specs.Octets.{mac_cmp}
use Rattle.fdb_core.specs.declared.row.LearnedRow.{LearnedRow}
use Rattle.fdb_core.specs.declared.row.TheConstants.{MAX_AGING_TIME}

-- each address is below those of all later rows, so none comes twice
abbrev pub IsRising : List LearnedRow → Type 0
IsRising rows = IsStrictlySortedBy (λ r s. mac_cmp r.address s.address) rows

-- each age is below the longest aging time
abbrev pub IsYoung : List LearnedRow → Type 0
IsYoung rows = AllByRecursion (λ r. r.age < MAX_AGING_TIME) rows

-- six octets
pub record IsAddress (address : Mac) : Type 0 where
  pub six : length address.0 ≡ 6
  pub octets : AllByRecursion (λ o. o < 256) address.0

-- the address of each row is one
abbrev pub HaveAddresses : List LearnedRow → Type 0
HaveAddresses rows = AllByRecursion (λ r. IsAddress r.address) rows

-- the rows of lower addresses, and those of higher ones
abbrev pub rows_below : List LearnedRow → Mac → List LearnedRow
rows_below rows address = filter (λ r. is_lt (mac_cmp r.address address)) rows

abbrev pub rows_above : List LearnedRow → Mac → List LearnedRow
rows_above rows address = filter (λ r. is_gt (mac_cmp r.address address)) rows

-- the row of the address
abbrev pub row_of : List LearnedRow → Mac → Option LearnedRow
row_of rows address = find (λ r. is_eq (mac_cmp r.address address)) rows

-- its port
abbrev pub port_of : List LearnedRow → Mac → Option ℕ
port_of rows address = option_map (λ r. r.port) (row_of rows address)

-- the first row, or the first above an address
abbrev pub next_after : List LearnedRow → Option Mac → Option LearnedRow
next_after rows None = slice_get rows 0
next_after rows (Some address) = slice_get (rows_above rows address) 0

-- a row one second later
abbrev pub older_row : LearnedRow → LearnedRow
older_row r = record r { age = r.age + 1 }

-- the rows whose age is below the limit
abbrev pub young_rows : ℕ → List LearnedRow → List LearnedRow
young_rows limit rows = filter (λ r. nat_lt r.age limit) rows

-- the rows of other ports than these
abbrev pub other_rows : List ℕ → List LearnedRow → List LearnedRow
other_rows ports rows = filter (λ r. not (list_any (λ n. n == r.port) ports)) rows
