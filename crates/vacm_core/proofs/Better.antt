-- The better of the best row so far and one more.
use Rattle.std.proofs.Common.{◌≡◌, ℕ, ◌<◌, ◌≤◌, Bool, true, false, ◌&&◌, List, length, get_or, Option, Some, None, refl, sym, ap, subst, ◌∙◌, inl, inr}
use Rattle.std.specs.Cmp.{IsStrictWeakOrder}
use Rattle.std.proofs.lemmas.Bool.{cases_Bool, both_ways}
use Rattle.std.proofs.lemmas.List.{get_or_read, get_or_default}
use Rattle.std.proofs.lemmas.Option.{none-some, slice_get_past, get_or_from_slice_get}
use Rattle.vacm_core.specs.Best.{takes_over}
use Rattle.vacm_core.specs.Trees.{IsFit, IsNoBetter, Covers, IsLater}
use Rattle.vacm_core.proofs.Agrees.{and_true}

module _ {R : Type 0} {beats : R → R → Bool} (o : IsStrictWeakOrder beats) (passes : R → Bool) (rows : List R) where
  -- the best one beats no row that the one before did not beat
  outdone : (best : Option ℕ) (row other : R) → IsFit passes rows best → takes_over beats rows best row ≡ true → IsNoBetter beats rows other best → beats other row ≡ false
  outdone None row other fit takes covered = absurd covered
  outdone (Some b) row other fit takes covered =
      let ahead : beats row (get_or rows b other) ≡ true = ap (beats row) (get_or_default rows b other row fit.0) ∙ takes in
      o.chain other (get_or rows b other) row covered (o.one_way row (get_or rows b other) ahead)

  -- a row that takes over is later than the best so far
  pub taken : (best : Option ℕ) (n : ℕ) (row : R) → IsFit passes rows best → n < length rows → row ≡ get_or rows n row → (takes_over beats rows best row && passes row) ≡ true → IsLater passes beats rows best (Some n)
  taken best n row fit lt is better =
      let both = and_true (takes_over beats rows best row) (passes row) better in
      record {
        fit = (lt, λ d. ap passes (sym (get_or_read rows n row lt is d)) ∙ both.1);
        kept = λ m covers other here pass.
            ap (beats other) (sym (get_or_read rows n row lt is other)) ∙ outdone best row other fit both.0 (covers other here pass);
      }

  -- and covers itself
  pub covers_itself : (n : ℕ) → Covers passes beats rows (Some n) n
  covers_itself n other here pass =
      let same = get_or_from_slice_get rows n other other here in
      ap (beats other) same ∙ elim (cases_Bool (beats other other)) [ inl h ↦ o.one_way other other h | inr h ↦ h ]

  not_better : (best : Option ℕ) (row : R) → (takes_over beats rows best row && passes row) ≡ false → passes row ≡ true → takes_over beats rows best row ≡ false
  not_better best row worse pass = elim (cases_Bool (takes_over beats rows best row)) [
    | inl takes ↦ absurd (both_ways (takes_over beats rows best row && passes row) worse (rw (takes, pass) refl))
    | inr h ↦ h
  ]

  no_better : (best : Option ℕ) (row : R) → takes_over beats rows best row ≡ false → IsNoBetter beats rows row best
  no_better None row e = both_ways true e refl
  no_better (Some b) row e = e

  -- a row that is no better is covered by the best so far
  pub covers_worse : (best : Option ℕ) (n : ℕ) (row : R) → n < length rows → row ≡ get_or rows n row → (takes_over beats rows best row && passes row) ≡ false → Covers passes beats rows best n
  covers_worse best n row lt is worse other here pass =
      let same : row ≡ other = get_or_read rows n row lt is other ∙ get_or_from_slice_get rows n other other here in
      subst (λ (r : R). IsNoBetter beats rows r best) same (no_better best row (not_better best row worse (ap passes same ∙ pass)))

  -- no row is behind the last
  pub covers_past : (best : Option ℕ) (n : ℕ) → length rows ≤ n → Covers passes beats rows best n
  covers_past best n le other here pass = absurd (none-some other (sym (slice_get_past rows n le) ∙ here))
