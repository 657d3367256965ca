use Rattle.std.proofs.Common.{◌≡◌, ◌≢◌, ◌<◌, ℕ, length, get_or}
use Rattle.vacm_core.specs.Bitmaps.{IsKept}
use Rattle.vacm_core.specs.declared.bitmaps.PlaceBitmap.{PlaceBitmap}
use Rattle.vacm_core.specs.declared.tables.FamilyRow.{FamilyRow}
use Rattle.vacm_core.proofs.bitmaps.Block.put.Given as goal

-- the places so far keep the row, and each place keeps what it kept at other bits
abbrev pub invariant-loop-k : goal.invariant-loop-k
invariant-loop-k l = record {
  long : length l.self.places.items ≡ length l.fn.self.places.items;
  here : (j : ℕ) (d : PlaceBitmap) → j < l.k → IsKept (get_or l.self.places.items j d) l.bit l.row;
  others : (j : ℕ) (d : PlaceBitmap) (other : ℕ) (kept : FamilyRow) → j < length l.fn.self.places.items → other < 64 → other ≢ l.bit
      → IsKept (get_or l.fn.self.places.items j d) other kept → IsKept (get_or l.self.places.items j d) other kept;
}
