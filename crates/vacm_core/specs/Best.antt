-- The row of a list that passes a test and that no row that passes it beats.
use Rattle.std.specs.Prelude.{ℕ, ◌≡◌, Bool, true, ◌&&◌, not, List, Option, Some, None, slice_get, slice_index_or, position}
use Rattle.std.specs.List.{list_any}

-- it passes, and no row that passes beats it
abbrev pub is_unbeaten : {R : Type 0} → (R → Bool) → (R → R → Bool) → List R → R → Bool
is_unbeaten passes beats rows row =
    passes row && not (list_any (λ other. passes other && beats other row) rows)

-- its place in the list
unfoldable pub unbeaten : {R : Type 0} → (R → Bool) → (R → R → Bool) → List R → Option ℕ
unbeaten passes beats rows = position (is_unbeaten passes beats rows) rows

-- the row at this place is such a row
pub record IsUnbeatenAt {R : Type 0} (passes : R → Bool) (beats : R → R → Bool) (rows : List R) (n : ℕ) : Type 0 where
  pub row : R
  pub here : slice_get rows n ≡ Some row
  pub unbeaten : is_unbeaten passes beats rows row ≡ true

-- a row that passes takes the place of the best so far
abbrev pub takes_over : {R : Type 0} → (R → R → Bool) → List R → Option ℕ → R → Bool
takes_over beats rows (Some best) row = beats row (slice_index_or rows best row)
takes_over beats rows None row = true
