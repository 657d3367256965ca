use Rattle.std.proofs.Common.{◌≡◌, map, take}
use Rattle.vacm_core.proofs.copying.copied_rows.Given as goal

-- the copies so far
abbrev pub invariant-loop-row : goal.invariant-loop-row
invariant-loop-row g l = l.copies.items ≡ map g.R.CopiedAs.copy_of (take l.row-index l.rows)
