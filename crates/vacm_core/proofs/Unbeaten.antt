-- A fit row that covers all rows is the unbeaten one.
use Rattle.std.proofs.Common.{◌≡◌, ℕ, ◌<◌, Bool, false, ◌&&◌, List, [], ◌∷◌, length, get_or, Option, Some, None, refl, sym, ap, ◌∙◌, arith, inl, inr}
use Rattle.std.specs.Cmp.{IsStrictWeakOrder}
use Rattle.std.specs.List.{list_any}
use Rattle.std.proofs.lemmas.Bool.{cases_Bool, both_ways}
use Rattle.std.proofs.lemmas.List.{get_or_default}
use Rattle.std.proofs.lemmas.List.Folds.{list_any_at, list_any_none}
use Rattle.std.proofs.lemmas.Option.{slice_get-get_or}
use Rattle.vacm_core.specs.Best.{unbeaten, IsUnbeatenAt}
use Rattle.vacm_core.specs.Trees.{IsFit, Covers}
use Rattle.vacm_core.proofs.Decided.{none_where_none_passes, some_is_unbeaten}

module _ {R : Type 0} {beats : R → R → Bool} (o : IsStrictWeakOrder beats) (passes : R → Bool) (rows : List R)
    (one : (n m : ℕ) → IsUnbeatenAt passes beats rows n → IsUnbeatenAt passes beats rows m → n ≡ m) where
  none_here : ((n : ℕ) → Covers passes beats rows None n) → list_any passes rows ≡ false
  none_here all = list_any_none passes rows (λ k d lt.
      elim (cases_Bool (passes (get_or rows k d))) [
        | inl p ↦ absurd (all k (get_or rows k d) (slice_get-get_or rows k d lt) p)
        | inr p ↦ p
      ])

  not_beaten : (b : ℕ) → b < length rows → ((n : ℕ) → Covers passes beats rows (Some b) n) → (d : R) → list_any (λ other. passes other && beats other (get_or rows b d)) rows ≡ false
  not_beaten b lt all d = list_any_none (λ other. passes other && beats other (get_or rows b d)) rows (λ k e within.
      elim (cases_Bool (passes (get_or rows k e))) [
        | inl p ↦
            let row = get_or rows k e in
            rw p ((λ j. beats row (get_or_default rows b d row lt j)) ∙ all k row (slice_get-get_or rows k e within) p)
        | inr p ↦ rw p refl
      ])

  unbeaten_at : (b : ℕ) (d : R) → IsFit passes rows (Some b) → ((n : ℕ) → Covers passes beats rows (Some b) n) → IsUnbeatenAt passes beats rows b
  unbeaten_at b d fit all = record {
    row = get_or rows b d;
    here = slice_get-get_or rows b d fit.0;
    unbeaten = rw (fit.1 d, not_beaten b fit.0 all d) refl;
  }

  same_place : (b : ℕ) (d : R) → IsFit passes rows (Some b) → ((n : ℕ) → Covers passes beats rows (Some b) n) → (found : Option ℕ) → unbeaten passes beats rows ≡ found → Some b ≡ found
  same_place b d fit all None e =
      absurd (both_ways (list_any passes rows) ((none_where_none_passes o passes rows).0 e) (list_any_at passes rows b d fit.0 (fit.1 d)))
  same_place b d fit all (Some m) e = ap (λ (n : ℕ). Some n) (one b m (unbeaten_at b d fit all) (some_is_unbeaten o passes rows m e))

-- it is the one that decides
pub decides : {R : Type 0} {beats : R → R → Bool} (o : IsStrictWeakOrder beats) (passes : R → Bool) (rows : List R)
    → ((n m : ℕ) → IsUnbeatenAt passes beats rows n → IsUnbeatenAt passes beats rows m → n ≡ m)
    → (best : Option ℕ) → IsFit passes rows best → ((n : ℕ) → Covers passes beats rows best n) → best ≡ unbeaten passes beats rows
decides {beats = beats} o passes rows one None fit all = sym ((none_where_none_passes o passes rows).1 (none_here o passes rows one all))
decides {beats = beats} o passes [] one (Some b) fit all = let lt = fit.0 in absurd (omega arith)
decides {beats = beats} o passes (x ∷ xs) one (Some b) fit all =
    same_place o passes (x ∷ xs) one b x fit all (unbeaten passes beats (x ∷ xs)) refl
