-- The first place where a name differs from a subtree, number by number, and the front past rows, row by row.
use Rattle.std.proofs.Common.{◌≡◌, if◌then◌else◌, Bool, ℕ, suc, ◌+◌, ◌<◌, ◌≤◌, min, List, [], ◌∷◌, length, drop, drop-cons, get_or, add-one, Some, None, refl, sym, ap, ◌∙◌, arith, inl, inr}
use Rattle.std.proofs.lemmas.Bool.{cases_lt}
use Rattle.std.proofs.lemmas.List.{drop_all}
use Rattle.std.proofs.lemmas.Option.{slice_get-get_or}
use Rattle.vacm_core.specs.declared.tables.FamilyRow.{FamilyRow}
use Rattle.vacm_core.specs.Families.{agrees_with, agrees_at}
use Rattle.vacm_core.specs.Fronts.{front_apart, front_with, front_past}

-- the k-th numbers of both
pub apart_step : (mask : List ℕ) (k : ℕ) (subtree name : List ℕ) → k < length subtree → k < length name
    → front_apart k mask (drop k subtree) (drop k name) ≡ (if agrees_at mask k (get_or subtree k 0) name then front_apart (k + 1) mask (drop (k + 1) subtree) (drop (k + 1) name) else Some (k + 1))
apart_step mask k subtree name h g =
    let both : front_apart k mask (drop k subtree) (drop k name) ≡ front_apart k mask (get_or subtree k 0 ∷ drop (suc k) subtree) (get_or name k 0 ∷ drop (suc k) name) = (λ i. front_apart k mask (drop-cons subtree k 0 h i) (drop-cons name k 0 g i)) in
    let asked = sym (slice_get-get_or name k 0 g) in
    let next = sym (add-one k) in
    both
    ∙ (λ i. if agrees_with mask k (get_or subtree k 0) (asked i) then front_apart (k + 1) mask (drop (next i) subtree) (drop (next i) name) else Some (k + 1))

no_name : (mask : List ℕ) (k : ℕ) (subtree : List ℕ) → front_apart k mask subtree [] ≡ None
no_name mask k [] = refl
no_name mask k (s ∷ subtree) = refl

-- past the end of either
pub apart_end : (mask : List ℕ) (k : ℕ) (subtree name : List ℕ) → min (length subtree) (length name) ≤ k → front_apart k mask (drop k subtree) (drop k name) ≡ None
apart_end mask k subtree name h = elim (cases_lt k (length subtree)) [
  | inr le ↦ rw (drop_all k subtree le) refl
  | inl lt ↦ let le : length name ≤ k = omega arith in rw (drop_all k name le) (no_name mask k (drop k subtree))
]

module _ (rival : FamilyRow → Bool) (name : List ℕ) where
  pub past_step : (rows : List FamilyRow) (i front : ℕ) (row : FamilyRow) → i < length rows → row ≡ get_or rows i row
      → front_past rival name (Some front) (drop i rows) ≡ front_past rival name (front_with rival name front row) (drop (i + 1) rows)
  past_step rows i front row lt is =
      let next = sym (add-one i) in
      ap (front_past rival name (Some front)) (drop-cons rows i row lt)
      ∙ (λ j. front_past rival name (front_with rival name front (sym is j)) (drop (next j) rows))

  pub given_up : (rows : List FamilyRow) → front_past rival name None rows ≡ None
  given_up [] = refl
  given_up (row ∷ rows) = refl

  pub past_end : (rows : List FamilyRow) (i front : ℕ) → length rows ≤ i → front_past rival name (Some front) (drop i rows) ≡ Some front
  past_end rows i front le = rw (drop_all i rows le) refl
