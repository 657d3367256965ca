use Rattle.std.proofs.Common.{◌≡◌, ◌<◌, ◌≤◌, ℕ, true, Some, length}
use Rattle.std.specs.List.{slice_get, slice_index}
use Rattle.std.specs.Int.{bit_at}
use Rattle.vacm_core.specs.Bitmaps.{IsSound, is_allowed, only_of}
use Rattle.vacm_core.specs.declared.bitmaps.Block.{Block}
use Rattle.vacm_core.specs.declared.tables.FamilyRow.{FamilyRow}
use Rattle.vacm_core.proofs.candidates.next_level.Given as goal

-- the words so far keep each row that may have the number, and the others are as before
abbrev pub invariant-loop-b : goal.invariant-loop-b
invariant-loop-b l = record {
  long : length l.rows ≡ 32;
  done : (b bit : ℕ) (block : Block) (row : FamilyRow) → b < l.b → bit < 64 → slice_get l.blocks b ≡ Some block → IsSound block bit row
      → is_allowed (only_of row l.place) l.number ≡ true → bit_at (slice_index l.level.rows b) bit ≡ 1 → bit_at (slice_index l.rows b) bit ≡ 1;
  rest : (b : ℕ) → l.b ≤ b → b < 32 → slice_index l.rows b ≡ slice_index l.level.rows b;
}
