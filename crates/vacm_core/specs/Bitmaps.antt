-- Bitmaps of family rows: which rows of a block of 64 may have a number at a place of a name. Each row is a bit of a word.
use Rattle.std.specs.Prelude.{◌≡◌, ℕ, ◌/◌, ◌%◌, ◌==◌, Bool, true, if◌then◌else◌, ◌&&◌, ◌||◌, List, slice_get, slice_index, All, Option, Some, None}
use Rattle.std.specs.Int.{bit_at}
use Rattle.vacm_core.specs.declared.bitmaps.Bitmap.{Bitmap, Rest, Digit'}
use Rattle.vacm_core.specs.declared.bitmaps.PlaceBitmap.{PlaceBitmap}
use Rattle.vacm_core.specs.declared.bitmaps.Block.{Block}
use Rattle.vacm_core.specs.declared.tables.FamilyRow.{FamilyRow}
use Rattle.vacm_core.specs.Families.{mask_bit}

-- a number that is the only one, where there is an only one
abbrev pub is_allowed : Option ℕ → ℕ → Bool
is_allowed (Some only) number = only == number
is_allowed None number = true

-- the only number that a name of the row's family may have at a place, where the place counts
abbrev pub only_at : List ℕ → ℕ → Option ℕ → Option ℕ
only_at mask place (Some part) = if mask_bit mask place then Some part else None
only_at mask place None = None

abbrev pub only_of : FamilyRow → ℕ → Option ℕ
only_of row place = only_at row.mask place (slice_get row.subtree place)

-- the words of a number's digits, from the lowest on, have the bit, and so has the last word, unless what is left
-- of the number is the one that all have
abbrev pub keeps : Bitmap → ℕ → ℕ → Bool
keeps (Rest last) bit number = (number == last.high) || bit_at last.others bit == 1
keeps (Digit' p rows rest) bit number = (bit_at (slice_index rows (number % 16)) bit == 1) && keeps rest bit (number / 16)

-- the bit of a row stands for each number that the row's family may have at the place
abbrev pub IsKept : PlaceBitmap → ℕ → FamilyRow → Type 0
IsKept at bit row = (number : ℕ) → is_allowed (only_of row at.place) number ≡ true → keeps at.rows bit number ≡ true

-- the same at each place
abbrev pub IsSound : Block → ℕ → FamilyRow → Type 0
IsSound block bit row = All (λ at. IsKept at bit row) block.places.items

-- the same in the block of a place in the index, where there is one
abbrev pub IsIn : List Block → ℕ → FamilyRow → Type 0
IsIn blocks rank row = (block : Block) → slice_get blocks (rank / 64) ≡ Some block → IsSound block (rank % 64) row

-- the same of each row of an index
abbrev pub AreIn : List FamilyRow → List ℕ → List Block → Type 0
AreIn rows index blocks = (rank n : ℕ) (row : FamilyRow) → slice_get index rank ≡ Some n → slice_get rows n ≡ Some row → IsIn blocks rank row

-- the same of each row but one
abbrev pub AreInBut : List FamilyRow → List ℕ → ℕ → List Block → Type 0
AreInBut rows index but blocks = (rank n : ℕ) (row : FamilyRow) → (n ≡ but → ⊥) → slice_get index rank ≡ Some n → slice_get rows n ≡ Some row → IsIn blocks rank row
