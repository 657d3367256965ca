-- Learned addresses by the moment at which each was learned.
use Rattle.std.specs.Prelude.{ℕ, ◌+◌, ◌-◌, ◌<◌, ◌≤◌, not, ◌==◌, nat_lt, min, List, [], ◌∷◌, map, filter, slice_get, Option}
use Rattle.std.specs.List.{AllByRecursion, list_any}
use Rattle.std.specs.Option.{option_map}
use Rattle.frame_core.specs.declared.mac.Mac.{Mac}
use Rattle.fdb_core.specs.declared.row.LearnedRow.{LearnedRow}
use Rattle.fdb_core.specs.declared.row.TheConstants.{MAX_AGING_TIME}
use Rattle.fdb_core.specs.Table.{Table, IsTable}
use Rattle.fdb_core.specs.declared.seen.Seen.{Seen}
use Rattle.fdb_core.specs.declared.seen.TheConstants.{LAST_TICK}

-- an address as the row that it is at a tick: its age is the ticks since it was learned
abbrev pub row_at : ℕ → Mac × Seen → LearnedRow
row_at tick e = record { address = e.0; port = e.1.port; age = tick - e.1.tick }

abbrev pub rows_at : ℕ → List (Mac × Seen) → List LearnedRow
rows_at tick entries = map (row_at tick) entries

-- the row of the first address
abbrev pub first_row : ℕ → List (Mac × Seen) → Option LearnedRow
first_row tick entries = option_map (row_at tick) (slice_get entries 0)

-- those whose age at a tick is below the limit
abbrev pub young_entries : ℕ → ℕ → List (Mac × Seen) → List (Mac × Seen)
young_entries tick limit entries = filter (λ e. nat_lt (tick - e.1.tick) limit) entries

-- those of other ports than these
abbrev pub other_entries : List ℕ → List (Mac × Seen) → List (Mac × Seen)
other_entries ports entries = filter (λ e. not (list_any (λ n. n == e.1.port) ports)) entries

-- the tick of an address, so many ticks lower
abbrev pub seen_earlier : ℕ → Seen → Seen
seen_earlier by seen = record seen { tick = seen.tick - by }

-- all of them lowered
abbrev pub lowered_entries : ℕ → List (Mac × Seen) → List (Mac × Seen)
lowered_entries by entries = map (λ e. (e.0, seen_earlier by e.1)) entries

-- the lowest tick of some addresses, or this one where it is lower
abbrev pub oldest_tick : ℕ → List Seen → ℕ
oldest_tick tick [] = tick
oldest_tick tick (seen ∷ rest) = min seen.tick (oldest_tick tick rest)

-- each address was learned from the first tick on, and no later than the second
abbrev pub AreSeenWithin : ℕ → ℕ → List (Mac × Seen) → Type 0
AreSeenWithin oldest tick entries = AllByRecursion (λ e. (oldest ≤ e.1.tick) × (e.1.tick ≤ tick)) entries

-- The lower bound of the ticks is one, and the tick number is no lower.
pub record IsTimed (oldest : ℕ) (tick : ℕ) (entries : List (Mac × Seen)) : Type 0 where
  pub within : AreSeenWithin oldest tick entries
  pub not_later : oldest ≤ tick

-- What holds of them between two seconds: the bound is made anew in time, and the tick number can
-- rise.
pub record IsReady (oldest : ℕ) (tick : ℕ) (entries : List (Mac × Seen)) : Type 0 where
  pub timed : IsTimed oldest tick entries
  pub recent : tick < oldest + MAX_AGING_TIME
  pub can_rise : tick < LAST_TICK

-- the table that they are
abbrev pub table_of : ℕ → List (Mac × Seen) → ℕ → Table
table_of tick entries limit = record { rows = rows_at tick entries; limit = limit }

-- what holds of every table as it is kept
pub record IsKept (oldest : ℕ) (tick : ℕ) (entries : List (Mac × Seen)) (limit : ℕ) : Type 0 where
  pub table : IsTable (table_of tick entries limit)
  pub ready : IsReady oldest tick entries
