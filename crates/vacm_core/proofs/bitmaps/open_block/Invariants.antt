use Rattle.std.proofs.Common.{◌<◌, ℕ, All}
use Rattle.vacm_core.specs.Bitmaps.{IsKept}
use Rattle.vacm_core.specs.declared.tables.FamilyRow.{FamilyRow}
use Rattle.vacm_core.proofs.bitmaps.open_block.Given as goal

-- each row is kept at the places so far
abbrev pub invariant-loop-place : goal.invariant-loop-place
invariant-loop-place l = All (λ at. (bit : ℕ) (row : FamilyRow) → bit < 64 → IsKept at bit row) l.places.items
