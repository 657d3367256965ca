-- What an operator is answered of the datagrams that each cause dropped.
use Rattle.std.specs.Prelude.{◌≡◌, ℕ, ◌%◌, ◌^◌}
use Rattle.live_control.specs.declared.tally.DropCounts.{DropCounts}
use Rattle.live_laps.specs.declared.book.Drops.{Drops}

-- a count modulo 2^32
abbrev pub wrapped : ℕ → ℕ
wrapped count = count % 2 ^ 32

-- the drops, each cause's count modulo 2^32
abbrev pub counts_of : Drops → DropCounts
counts_of drops = record {
  too_long = wrapped drops.too_long;
  malformed = wrapped drops.malformed;
  bad_version = wrapped drops.bad_version;
  bad_kind = wrapped drops.bad_kind;
  memory = wrapped drops.memory;
}

-- An operator may be answered these counts, where the watch of the line may report these drops: they are
-- those of drops that it reports.
abbrev pub MayAnswer : {V : Type 0} → (V → Drops → Type 0) → V → DropCounts → Type 0
MayAnswer reports watch counts = (drops : Drops) × reports watch drops × (counts ≡ counts_of drops)
