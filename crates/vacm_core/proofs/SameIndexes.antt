-- The row behind some numbers and the row of an index hang on the indexes of the rows alone.
use Rattle.std.proofs.Common.{◌≡◌, ◌↔◌, ℕ, suc, ◌+◌, Bool, true, false, not, ◌&&◌, ◌||◌, cond, List, [], ◌∷◌, ◌++◌, length, map, get_or, bytes_eq, position, Option, Some, None, option_map, refl, sym, ap, ◌∙◌, arith, inl, inr}
use Rattle.std.specs.Cmp.Lexicographic.{slice_cmp, same_text}
use Rattle.std.specs.List.{list_any, position_from, slice_get}
use Rattle.std.specs.Ordering.{nat_cmp, is_lt, is_gt}
use Rattle.std.proofs.lemmas.Bool.{cases_Bool, both_ways}
use Rattle.std.proofs.lemmas.Iterator.Adapters.{position_from-zero}
use Rattle.std.proofs.lemmas.List.Quantifiers.{position-Some}
use Rattle.std.proofs.lemmas.Option.{slice_get-get_or}
use Rattle.vacm_core.specs.declared.tables.FamilyRow.{FamilyRow}
use Rattle.vacm_core.specs.Best.{unbeaten}
use Rattle.vacm_core.specs.FamilyIndex.{family_index, next_family, has_index, family_at, HaveSameIndexes}
use Rattle.vacm_core.proofs.Puts.{AreAlike}

-- ---- by what a key of each row is

module _ {R S : Type 0} (key : R → S) where
  any_by : (p : S → Bool) (rows : List R) → list_any (λ r. p (key r)) rows ≡ list_any p (map key rows)
  any_by p [] = refl
  any_by p (x ∷ xs) = ap (λ (b : Bool). p (key x) || b) (any_by p xs)

  from_by : (p : S → Bool) (j : ℕ) (rows : List R) → position_from (λ r. p (key r)) j rows ≡ position_from p j (map key rows)
  from_by p j [] = refl
  from_by p j (x ∷ xs) = ap (λ (o : Option ℕ). cond (p (key x)) (Some j) o) (from_by p (j + 1) xs)

  position_by : (p : S → Bool) (rows : List R) → position (λ r. p (key r)) rows ≡ position p (map key rows)
  position_by p rows = position_from-zero (λ r. p (key r)) rows ∙ from_by p 0 rows ∙ sym (position_from-zero p (map key rows))

  unbeaten_by : (passes : S → Bool) (beats : S → S → Bool) (rows : List R) → unbeaten (λ r. passes (key r)) (λ a b. beats (key a) (key b)) rows ≡ unbeaten passes beats (map key rows)
  unfolding unbeaten
  unbeaten_by passes beats rows =
      (λ t. position (λ r. passes (key r) && not (any_by (λ o. passes o && beats o (key r)) rows t)) rows)
      ∙ position_by (λ s. passes s && not (list_any (λ o. passes o && beats o s) (map key rows))) rows

-- ---- by the index

next_by : (rows : List FamilyRow) (numbers : List ℕ) → next_family rows numbers ≡ unbeaten (λ index. is_gt (slice_cmp nat_cmp index numbers)) (λ a b. is_lt (slice_cmp nat_cmp a b)) (map family_index rows)
next_by rows numbers = unbeaten_by family_index (λ index. is_gt (slice_cmp nat_cmp index numbers)) (λ a b. is_lt (slice_cmp nat_cmp a b)) rows

at_by : (rows : List FamilyRow) (numbers : List ℕ) → family_at rows numbers ≡ position (λ index. bytes_eq index numbers) (map family_index rows)
at_by rows numbers = position_by family_index (λ index. bytes_eq index numbers) rows

alike_indexes : (old new : List FamilyRow) → AreAlike old new → map family_index new ≡ map family_index old
alike_indexes [] [] alike = refl
alike_indexes [] (y ∷ ys) alike = let long = alike.long in absurd (omega arith)
alike_indexes (x ∷ xs) [] alike = let long = alike.long in absurd (omega arith)
alike_indexes (x ∷ xs) (y ∷ ys) alike =
    let first = alike.same 0 x (omega arith) in
    let long = alike.long in
    let rest = alike_indexes xs ys (record { long = omega arith; same = λ k d lt. alike.same (suc k) d (omega arith) }) in
    sym (λ t. (length (first.view t) ∷ (first.view t ++ length (first.subtree t) ∷ first.subtree t)) ∷ sym rest t)

pub same_indexes : (old new : List FamilyRow) → AreAlike old new → HaveSameIndexes old new
same_indexes old new alike =
    let indexes = alike_indexes old new alike in
    record {
      indexes = indexes;
      next = λ numbers. next_by new numbers ∙ ap (unbeaten (λ index. is_gt (slice_cmp nat_cmp index numbers)) (λ a b. is_lt (slice_cmp nat_cmp a b))) indexes ∙ sym (next_by old numbers);
      at = λ numbers. at_by new numbers ∙ ap (position (λ index. bytes_eq index numbers)) indexes ∙ sym (at_by old numbers);
    }

-- ---- where no row has an index, and where one does

none_passes : {R : Type 0} (p : R → Bool) (j : ℕ) (xs : List R) → position_from p j xs ≡ None → list_any p xs ≡ false
none_passes p j [] e = refl
none_passes p j (x ∷ xs) e =
    elim (cases_Bool (p x)) [
      | inl t ↦ let some : position_from p j (x ∷ xs) ≡ Some j = rw t refl in absurd cc
      | inr f ↦ let on : position_from p j (x ∷ xs) ≡ position_from p (j + 1) xs = rw f refl in rw f (none_passes p (j + 1) xs (sym on ∙ e))
    ]

none_found : {R : Type 0} (p : R → Bool) (j : ℕ) (xs : List R) → list_any p xs ≡ false → position_from p j xs ≡ None
none_found p j [] e = refl
none_found p j (x ∷ xs) e =
    elim (cases_Bool (p x)) [
      | inl t ↦ let some : list_any p (x ∷ xs) ≡ true = rw t refl in absurd (both_ways (list_any p (x ∷ xs)) e some)
      | inr f ↦ let on : list_any p (x ∷ xs) ≡ list_any p xs = rw f refl in rw f (none_found p (j + 1) xs (sym on ∙ e))
    ]

pub none_has_index : (rows : List FamilyRow) (numbers : List ℕ) → (family_at rows numbers ≡ None) ↔ (list_any (has_index numbers) rows ≡ false)
none_has_index rows numbers =
    let from : family_at rows numbers ≡ position_from (has_index numbers) 0 rows = position_from-zero (has_index numbers) rows in
    ((λ e. none_passes (has_index numbers) 0 rows (sym from ∙ e)), (λ e. from ∙ none_found (has_index numbers) 0 rows e))

pub has_the_index : (rows : List FamilyRow) (numbers : List ℕ) (n : ℕ) → family_at rows numbers ≡ Some n → option_map family_index (slice_get rows n) ≡ Some numbers
has_the_index [] numbers n e = absurd cc
has_the_index (x ∷ xs) numbers n e =
    let found = position-Some (has_index numbers) (x ∷ xs) n x e in
    let row = get_or (x ∷ xs) n x in
    ap (option_map family_index) (slice_get-get_or (x ∷ xs) n x found.0) ∙ ap (λ (l : List ℕ). Some l) (same_text (family_index row) numbers (sym found.1))
