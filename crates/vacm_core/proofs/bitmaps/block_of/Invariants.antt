use Rattle.std.proofs.Common.{◌≡◌, ℕ, Some}
use Rattle.std.specs.List.{slice_get}
use Rattle.vacm_core.specs.Bitmaps.{IsSound}
use Rattle.vacm_core.specs.declared.tables.FamilyRow.{FamilyRow}
use Rattle.vacm_core.proofs.bitmaps.block_of.Given as goal

-- each row has its names
abbrev pub invariant-loop-bit : goal.invariant-loop-bit
invariant-loop-bit l = (bit n : ℕ) (row : FamilyRow) → slice_get l.numbers bit ≡ Some n → slice_get l.rows n ≡ Some row → IsSound l.block bit row
