use Rattle.std.proofs.Common.{◌≡◌, ◌≢◌, ◌<◌, ℕ, true, slice_index}
use Rattle.std.specs.Int.{bit_at}
use Rattle.vacm_core.specs.Bitmaps.{is_allowed}
use Rattle.vacm_core.proofs.bitmaps.put_digit.Given as goal

-- the words so far have the bit where the value may be, and each other bit is as before
abbrev pub invariant-loop-value : goal.invariant-loop-value
invariant-loop-value l = record {
  here : (value : ℕ) → value < l.value → is_allowed l.only value ≡ true → bit_at (slice_index l.rows value) l.bit ≡ 1;
  others : (other value : ℕ) → other < 64 → other ≢ l.bit → value < 16 → bit_at (slice_index l.rows value) other ≡ bit_at (slice_index l.fn.rows value) other;
}
