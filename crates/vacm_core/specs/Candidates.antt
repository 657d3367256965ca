-- The rows that may have a name, by its numbers from the first on.
use Rattle.std.specs.Prelude.{◌≡◌, ℕ, ◌+◌, ◌<◌, ◌≤◌, true, List, ◌++◌, length, take, slice_get, slice_index, slice_index_or, Some}
use Rattle.std.specs.Int.{bit_at}
use Rattle.vacm_core.specs.Bitmaps.{IsSound}
use Rattle.vacm_core.specs.Families.{agrees_from}
use Rattle.vacm_core.specs.declared.bitmaps.Block.{Block}
use Rattle.vacm_core.specs.declared.candidates.Level.{Level}
use Rattle.vacm_core.specs.declared.candidates.Candidates.{Candidates}
use Rattle.vacm_core.specs.declared.tables.FamilyRow.{FamilyRow}

-- each row whose family has a name that begins with these numbers has its bit in the word of its block
abbrev pub AreLeftBy : List Block → List ℕ → List ℕ → Type 0
AreLeftBy blocks front words =
    (b bit : ℕ) (block : Block) (row : FamilyRow) (rest : List ℕ) → b < 32 → bit < 64 → slice_get blocks b ≡ Some block → IsSound block bit row
    → agrees_from 0 row.mask row.subtree (front ++ rest) ≡ true → bit_at (slice_index words b) bit ≡ 1

-- there are words for each count of the numbers, from none on, and these rows are left by so many of them
pub record AreFollowed (blocks : List Block) (numbers : List ℕ) (levels : List Level) : Type 0 where
  pub long : length levels ≡ length numbers + 1
  pub left : (k : ℕ) (d : Level) → k ≤ length numbers → AreLeftBy blocks (take k numbers) (slice_index_or levels k d).rows

-- the numbers are those of this name
pub record IsOfName (blocks : List Block) (candidates : Candidates) (name : List ℕ) : Type 0 where
  pub followed : AreFollowed blocks candidates.numbers.items candidates.levels.items
  pub name_is : candidates.numbers.items ≡ name
