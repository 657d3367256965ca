-- Whether some row is of a view, by the rows whose numbers are found.
use Rattle.std.proofs.Common.{◌≡◌, ℕ, ◌<◌, Bool, true, false, not, ◌==◌, List, [], length, get_or, bytes_eq, All, Contains, sym, ap, ◌∙◌, arith, inl, inr, eq-eqb}
use Rattle.std.specs.Cmp.Lexicographic.{same_text}
use Rattle.std.specs.List.{list_any}
use Rattle.std.proofs.lemmas.Bool.{cases_Bool, cases_eq, both_ways, eqb-true}
use Rattle.std.proofs.lemmas.List.Folds.{list_any_none, list_any_at}
use Rattle.std.proofs.lemmas.Option.{slice_get-get_or}
use Rattle.vacm_core.specs.declared.tables.FamilyRow.{FamilyRow}
use Rattle.vacm_core.specs.Keys.{view_key, key_at, key_or}
use Rattle.vacm_core.proofs.Ties.{bytes_same}

no_row : FamilyRow
no_row = record { view = []; subtree = []; mask = []; included = false }

module _ (rows : List FamilyRow) (view : List ℕ) where
  abbrev pub is_of_view : FamilyRow → Bool
  is_of_view row = bytes_eq row.view view

  key_of : (n : ℕ) (d : FamilyRow) → n < length rows → is_of_view (get_or rows n d) ≡ true → key_at view_key rows n ≡ (0, view)
  key_of n d lt is =
      ap (key_or view_key) (slice_get-get_or rows n d lt) ∙ (λ j. (0, same_text (get_or rows n d).view view (sym is) j))

  of_key : (n : ℕ) (d : FamilyRow) → n < length rows → key_at view_key rows n ≡ (0, view) → is_of_view (get_or rows n d) ≡ true
  of_key n d lt same =
      let is : view_key (get_or rows n d) ≡ (0, view) = sym (ap (key_or view_key) (slice_get-get_or rows n d lt)) ∙ same in
      bytes_same (get_or rows n d).view view (ap (λ (k : ℕ × List ℕ). k.1) is)

  some_found : (numbers : List ℕ) → All (λ n. n < length rows) numbers → All (λ n. key_at view_key rows n ≡ (0, view)) numbers
      → 0 < length numbers → list_any is_of_view rows ≡ true
  some_found numbers within only some =
      let n = get_or numbers 0 0 in
      let lt = within 0 0 some in
      let row = get_or rows n no_row in
      list_any_at is_of_view rows n no_row lt (of_key n no_row lt (only 0 0 some))

  none_found : (numbers : List ℕ) → ((n : ℕ) → n < length rows → key_at view_key rows n ≡ (0, view) → Contains numbers n)
      → length numbers ≡ 0 → list_any is_of_view rows ≡ false
  none_found numbers all none =
      list_any_none is_of_view rows (λ k d lt.
      elim (cases_Bool (is_of_view (get_or rows k d))) [
        | inl is ↦ let inside = (all k lt (key_of k d lt is)).1 in absurd (omega (arith, inside, none))
        | inr h ↦ h
      ])

  module _ (numbers : List ℕ) (within : All (λ n. n < length rows) numbers) (only : All (λ n. key_at view_key rows n ≡ (0, view)) numbers)
      (all : (n : ℕ) → n < length rows → key_at view_key rows n ≡ (0, view) → Contains numbers n) where
    some_there : (length numbers == 0) ≡ false → 0 < length numbers
    some_there q =
        elim (cases_eq (length numbers) 0) [
          | inl e ↦ absurd (both_ways (length numbers == 0) q (eq-eqb (length numbers) 0 e))
          | inr ne ↦ omega (arith, ne)
        ]

    -- a row is of the view exactly where a number is found
    pub found : not (length numbers == 0) ≡ list_any is_of_view rows
    found =
        elim (cases_Bool (length numbers == 0)) [
          | inl p ↦ ap not p ∙ sym (none_found numbers all (eqb-true (length numbers) 0 p))
          | inr q ↦ ap not q ∙ sym (some_found numbers within only (some_there q))
        ]
