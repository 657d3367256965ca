use Rattle.std.proofs.Common.{◌≡◌, ◌<◌, ℕ, true}
use Rattle.std.specs.Int.{bit_at}
use Rattle.vacm_core.specs.Bitmaps.{IsSound}
use Rattle.vacm_core.specs.Families.{agrees_from}
use Rattle.vacm_core.specs.declared.tables.FamilyRow.{FamilyRow}
use Rattle.vacm_core.proofs.bitmaps.Block.rows_left.Given as goal

-- each row that has the name is left
abbrev pub invariant-loop-at : goal.invariant-loop-at
invariant-loop-at l = (bit : ℕ) (row : FamilyRow) → bit < 64 → IsSound l.self bit row → agrees_from 0 row.mask row.subtree l.name ≡ true → bit_at l.left bit ≡ 1
