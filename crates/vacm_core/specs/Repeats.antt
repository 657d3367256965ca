-- Which row of a table is the first that has the key of an earlier one, and the numbers of the rows
-- in the order of their keys.
use Rattle.std.specs.Prelude.{◌≡◌, ℕ, ◌-◌, ◌<◌, ◌≤◌, Bool, true, false, nat_eq, List, length, take, min, All, Contains, Option, Some, None, slice_get, slice_index}
use Rattle.std.specs.List.{list_any, IsDistinct}
use Rattle.std.specs.List.Sorted.{IsSortedBy}
use Rattle.std.specs.Option.{option_cmp}
use Rattle.std.specs.Ordering.{nat_cmp, ordering_then, is_lt, is_eq}
use Rattle.std.specs.declared.cmp.Ordering.{Ordering}

-- one of the earlier rows has the key of this row
abbrev pub repeats : {R : Type 0} → (R → R → Bool) → List R → Option R → Bool
repeats same_key earlier (Some row) = list_any (λ e. same_key e row) earlier
repeats same_key earlier None = false

-- the row at this place has the key of an earlier one
abbrev pub repeats_at : {R : Type 0} → (R → R → Bool) → List R → ℕ → Bool
repeats_at same_key rows n = repeats same_key (take n rows) (slice_get rows n)

-- the first row that has the key of an earlier one, or that there is none
abbrev pub IsFirstRepeat : {R : Type 0} → (R → R → Bool) → List R → Option ℕ → Type 0
IsFirstRepeat same_key rows (Some n) =
    (repeats_at same_key rows n ≡ true) × ((k : ℕ) → k < n → repeats_at same_key rows k ≡ false)
IsFirstRepeat same_key rows None = (k : ℕ) → repeats_at same_key rows k ≡ false

-- where the row of one number lies beside that of another; no row comes before any
abbrev pub cmp_at : {R : Type 0} → (R → R → Ordering) → List R → ℕ → ℕ → Ordering
cmp_at cmp rows a b = option_cmp cmp (slice_get rows a) (slice_get rows b)

-- by the rows, and where those are equal by the numbers
abbrev pub comes_before : {R : Type 0} → (R → R → Ordering) → List R → ℕ → ℕ → Bool
comes_before cmp rows a b = is_lt (ordering_then (cmp_at cmp rows a b) (nat_cmp a b))

-- the numbers of all rows, each once, in the order of the rows
pub record AreInOrder {R : Type 0} (cmp : R → R → Ordering) (rows : List R) (numbers : List ℕ) : Type 0 where
  pub sorted : IsSortedBy (comes_before cmp rows) numbers
  pub within : All (λ n. n < length rows) numbers
  pub all : (n : ℕ) → n < length rows → Contains numbers n
  pub once : IsDistinct nat_eq numbers

-- the row of the number at this place is equal to that of the number before
abbrev pub is_tied : {R : Type 0} → (R → R → Ordering) → List R → List ℕ → ℕ → Bool
is_tied cmp rows numbers k = is_eq (cmp_at cmp rows (slice_index numbers (k - 1)) (slice_index numbers k))

-- the lesser of the least number so far, if there is one, and one more
abbrev pub lesser : Option ℕ → ℕ → ℕ
lesser (Some m) n = min m n
lesser None n = n

-- this is the least of the numbers that are tied to those before, or there is none
pub record IsLeastTied {R : Type 0} (cmp : R → R → Ordering) (rows : List R) (numbers : List ℕ) (least : Option ℕ) : Type 0 where
  pub found : (n : ℕ) → least ≡ Some n → (k : ℕ) × (1 ≤ k) × (k < length numbers) × (is_tied cmp rows numbers k ≡ true) × (slice_index numbers k ≡ n)
  pub lowest : (k : ℕ) → 1 ≤ k → k < length numbers → is_tied cmp rows numbers k ≡ true → (n : ℕ) × (least ≡ Some n) × (n ≤ slice_index numbers k)
