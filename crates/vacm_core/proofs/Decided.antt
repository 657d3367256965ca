-- Some row of a list is unbeaten wherever one passes.
use Rattle.std.proofs.Common.{◌≡◌, ◌↔◌, ℕ, zero, suc, ◌+◌, ◌<◌, ◌≤◌, Bool, false, ◌&&◌, List, [], ◌∷◌, length, get_or, Option, Some, None, refl, sym, subst, ◌∙◌, arith, inl, inr, add-one}
use Rattle.std.specs.Cmp.{IsStrictWeakOrder}
use Rattle.std.specs.List.{list_any}
use Rattle.std.proofs.lemmas.Bool.{cases_Bool, both_ways}
use Rattle.std.proofs.lemmas.List.{get_or_default}
use Rattle.std.proofs.lemmas.List.Folds.{list_any_at, list_any_none}
use Rattle.std.proofs.lemmas.Option.{slice_get-get_or}
use Rattle.vacm_core.specs.Best.{unbeaten, takes_over, IsUnbeatenAt}
use Rattle.vacm_core.proofs.Bests.{BestSo, takes, skips, is_best, found}

module _ {R : Type 0} {beats : R → R → Bool} (o : IsStrictWeakOrder beats) (passes : R → Bool) where
  -- the best of one row more
  one_more : (rows : List R) (d : R) (i : ℕ) (best : Option ℕ) → i < length rows → BestSo passes beats rows i best → (after : Option ℕ) × BestSo passes beats rows (i + 1) after
  one_more rows d i best inside so =
      let row = get_or rows i d in
      let is : row ≡ get_or rows i row = get_or_default rows i d row inside in
      elim (cases_Bool (passes row && takes_over beats rows best row)) [
        | inl better ↦ (Some i, takes o rows i row inside is passes best better so)
        | inr worse ↦ (best, skips o rows i row inside is passes best worse so)
      ]

  best_of_first : (rows : List R) (d : R) (i : ℕ) → i ≤ length rows → (best : Option ℕ) × BestSo passes beats rows i best
  best_of_first rows d zero h = (None, λ k e lt. absurd (omega arith))
  best_of_first rows d (suc i) h =
      let so = best_of_first rows d i (omega arith) in
      let more = one_more rows d i so.0 (omega arith) so.1 in
      (more.0, subst (λ (n : ℕ). BestSo passes beats rows n more.0) (add-one i) more.1)

  -- the best of all rows
  best_of : (rows : List R) → (best : Option ℕ) × BestSo passes beats rows (length rows) best
  best_of [] = (None, λ k e lt. absurd (omega arith))
  best_of (x ∷ xs) = best_of_first (x ∷ xs) x (length (x ∷ xs)) (omega arith)

  none_passes : (rows : List R) (best : Option ℕ) → BestSo passes beats rows (length rows) best → best ≡ None → list_any passes rows ≡ false
  none_passes rows None so e = list_any_none passes rows (λ k d lt. so k d lt)
  none_passes rows (Some b) so e = absurd cc

  none_best : (rows : List R) (best : Option ℕ) → BestSo passes beats rows (length rows) best → list_any passes rows ≡ false → best ≡ None
  none_best rows None so e = refl
  none_best [] (Some b) so e = let below = so.below in absurd (omega arith)
  none_best (x ∷ xs) (Some b) so e = absurd (both_ways (list_any passes (x ∷ xs)) e (list_any_at passes (x ∷ xs) b x so.below (so.itself x)))

  best_unbeaten : (rows : List R) (n : ℕ) → BestSo passes beats rows (length rows) (Some n) → IsUnbeatenAt passes beats rows n
  best_unbeaten [] n so = let below = so.below in absurd (omega arith)
  best_unbeaten (x ∷ xs) n so = record {
    row = get_or (x ∷ xs) n x;
    here = slice_get-get_or (x ∷ xs) n x so.below;
    unbeaten = is_best passes beats (x ∷ xs) n so x;
  }

  -- no row is unbeaten exactly where none passes
  pub none_where_none_passes : (rows : List R) → (unbeaten passes beats rows ≡ None) ↔ (list_any passes rows ≡ false)
  none_where_none_passes rows =
      let b = best_of rows in
      let is : b.0 ≡ unbeaten passes beats rows = found passes beats rows (length rows) b.0 refl b.1 in
      ((λ e. none_passes rows b.0 b.1 (is ∙ e)), (λ e. sym is ∙ none_best rows b.0 b.1 e))

  -- the place of the unbeaten row has such a row
  pub some_is_unbeaten : (rows : List R) (n : ℕ) → unbeaten passes beats rows ≡ Some n → IsUnbeatenAt passes beats rows n
  some_is_unbeaten rows n e =
      let b = best_of rows in
      let is : b.0 ≡ unbeaten passes beats rows = found passes beats rows (length rows) b.0 refl b.1 in
      best_unbeaten rows n (subst (BestSo passes beats rows (length rows)) (is ∙ e) b.1)
