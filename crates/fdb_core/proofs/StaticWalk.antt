-- The made rows that come after some numbers.
use Rattle.std.proofs.Common.{◌≡◌, ℕ, ◌<◌, ◌≤◌, zero, suc, Bool, true, false, not, List, [], ◌∷◌, length, get_or, drop, refl, ap, ◌∙◌, arith}
use Rattle.std.specs.Prelude.{filter, ◌==◌}
use Rattle.std.specs.List.Sorted.{IsPartitionedBy, IsPartitionPoint}
use Rattle.std.specs.Cmp.Lexicographic.{slice_cmp}
use Rattle.std.specs.Ordering.{nat_cmp, is_gt}
use Rattle.std.proofs.lemmas.Bool.Decides.{Decides-eqb}
use Rattle.std.proofs.lemmas.Cmp.{nat_list_cmp_total, upto}
use Rattle.fdb_core.specs.declared.static_row.StaticRow.{StaticRow}
use Rattle.fdb_core.specs.Statics.{numbers_of, IsRising}
use Rattle.fdb_core.proofs.StaticSplit.{below_later}

abbrev pub greater : List ℕ → StaticRow → Bool
greater numbers r = is_gt (slice_cmp nat_cmp (numbers_of r.index) numbers)

from_not : (b : Bool) → not b ≡ true → b ≡ false
from_not true e = absurd cc
from_not false e = refl

from_not_false : (b : Bool) → not b ≡ false → b ≡ true
from_not_false true e = refl
from_not_false false e = absurd cc

module _ (rows : List StaticRow) (rising : IsRising rows) (numbers : List ℕ) where
  by_place : (i j : ℕ) (d : StaticRow) (v : Bool) → (i == j) ≡ v → i ≤ j → j < length rows → not (greater numbers (get_or rows j d)) ≡ true → not (greater numbers (get_or rows i d)) ≡ true
  by_place i j d true e le within h =
      let same : i ≡ j = (Decides-eqb i j).0 e in
      ap (λ k. not (greater numbers (get_or rows k d))) same ∙ h
  by_place i j d false e le within h =
      let other : i ≡ j → ⊥ = λ s. let t : (i == j) ≡ true = (Decides-eqb i j).1 s in absurd cc in
      let lower : i < j = omega arith in
      let below = ap is_gt (below_later rows rising i j d lower within) in
      ap not (upto nat_list_cmp_total (numbers_of (get_or rows i d).index) (numbers_of (get_or rows j d).index) numbers below (from_not _ h))

  pub parted : IsPartitionedBy (λ r. not (greater numbers r)) rows
  parted i j d le within h = by_place i j d (i == j) refl le within h

-- the rows of greater numbers are those from the point on
rest_at : (numbers : List ℕ) (rows : List StaticRow) → ((k : ℕ) (d : StaticRow) → k < length rows → greater numbers (get_or rows k d) ≡ true) → filter (greater numbers) rows ≡ rows
rest_at numbers [] h = refl
rest_at numbers (r ∷ rows) h =
    let here : greater numbers r ≡ true = h 0 r (omega arith) in
    rw here (ap (λ l. r ∷ l) (rest_at numbers rows (λ k d lt. h (suc k) d (omega arith))))

pub from_point : (numbers : List ℕ) (rows : List StaticRow) (i : ℕ) → i ≤ length rows → ((k : ℕ) (d : StaticRow) → k < i → greater numbers (get_or rows k d) ≡ false) → ((k : ℕ) (d : StaticRow) → i ≤ k → k < length rows → greater numbers (get_or rows k d) ≡ true) → filter (greater numbers) rows ≡ drop i rows
from_point numbers rows zero le low high = rest_at numbers rows (λ k d lt. high k d (omega arith) lt)
from_point numbers [] (suc i) le low high = absurd (omega arith)
from_point numbers (r ∷ rows) (suc i) le low high =
    let here : greater numbers r ≡ false = low 0 r (omega arith) in
    rw here (from_point numbers rows i (omega arith) (λ k d lt. low (suc k) d (omega arith)) (λ k d from lt. high (suc k) d (omega arith) (omega arith)))

pub greater_from : (numbers : List ℕ) (rows : List StaticRow) (i : ℕ) → i ≤ length rows → IsPartitionPoint (λ r. not (greater numbers r) ≡ true) (λ r. not (greater numbers r) ≡ false) rows i → filter (greater numbers) rows ≡ drop i rows
greater_from numbers rows i le point =
    from_point numbers rows i le (λ k d lt. from_not _ (point.0 k d (omega arith) lt)) (λ k d from lt. from_not_false _ (point.1 k d from lt))
