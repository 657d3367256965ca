-- The group row of a key among the rows whose numbers are found.
use Rattle.std.proofs.Common.{◌≡◌, ℕ, zero, suc, ◌<◌, Bool, true, false, List, [], ◌∷◌, length, get_or, find, bytes_eq, All, Contains, Some, None, refl, sym, ap, subst, ◌∙◌, ◌==◌, arith, inl, inr, eq-eqb}
use Rattle.std.specs.Cmp.Lexicographic.{same_text}
use Rattle.std.specs.List.{slice_get}
use Rattle.std.proofs.lemmas.Bool.{cases_Bool, both_ways, and_from, eqb-true}
use Rattle.std.proofs.lemmas.Option.{slice_get-get_or, get_or_from_slice_get, slice_get_within}
use Rattle.vacm_core.specs.declared.tables.GroupRow.{GroupRow}
use Rattle.vacm_core.specs.declared.tables.AccessRow.{AccessRow}
use Rattle.vacm_core.specs.declared.verdict.Ask.{Ask}
use Rattle.vacm_core.specs.Access.{is_of, candidate}
use Rattle.vacm_core.specs.Keys.{group_key, key_at, key_or}
use Rattle.vacm_core.specs.Rows.{same_group}
use Rattle.vacm_core.specs.Tables.{KeysDiffer}
use Rattle.vacm_core.proofs.Sound.{and_true, placed}
use Rattle.vacm_core.proofs.Ties.{bytes_same}

none_found : {R : Type 0} (p : R → Bool) (rows : List R) → ((k : ℕ) (d : R) → k < length rows → p (get_or rows k d) ≡ false) → find p rows ≡ None
none_found p [] h = refl
none_found p (x ∷ xs) h = rw (h 0 x (omega arith)) (none_found p xs (λ k d lt. h (suc k) d (omega arith)))

first_found : {R : Type 0} (p : R → Bool) (rows : List R) (n : ℕ) (row : R) → slice_get rows n ≡ Some row → p row ≡ true
    → ((k : ℕ) (d : R) → k < n → p (get_or rows k d) ≡ false) → find p rows ≡ Some row
first_found p [] n row at pass before = absurd cc
first_found p (x ∷ xs) zero row at pass before = let same : x ≡ row = cc in rw (ap p same ∙ pass) (ap Some same)
first_found p (x ∷ xs) (suc n) row at pass before =
    rw (before 0 x (omega arith)) (first_found p xs n row at pass (λ k d lt. before (suc k) d (omega arith)))

none_at : (numbers : List ℕ) → None ≡ slice_get numbers 0 → length numbers ≡ 0
none_at [] e = refl
none_at (n ∷ numbers) e = absurd cc

module _ (rows : List GroupRow) (model : ℕ) (security : List ℕ) where
  key_of : (n : ℕ) (row : GroupRow) → slice_get rows n ≡ Some row → is_of model security row ≡ true → key_at group_key rows n ≡ (model, security)
  key_of n row at is =
      let parts = and_true (row.model == model) (bytes_eq row.name security) is in
      let number = eqb-true row.model model parts.0 in
      let name = same_text row.name security (sym parts.1) in
      ap (key_or group_key) at ∙ (λ j. (number j, name j))

  of_key : (n : ℕ) (row : GroupRow) → slice_get rows n ≡ Some row → key_at group_key rows n ≡ (model, security) → is_of model security row ≡ true
  of_key n row at same =
      let is : group_key row ≡ (model, security) = sym (ap (key_or group_key) at) ∙ same in
      and_from _ _ (eq-eqb row.model model (ap (λ (k : ℕ × List ℕ). k.0) is)) (bytes_same row.name security (ap (λ (k : ℕ × List ℕ). k.1) is))

  one_key : (a b : GroupRow) → is_of model security a ≡ true → is_of model security b ≡ true → same_group a b ≡ true
  one_key a b x y =
      let p = and_true (a.model == model) (bytes_eq a.name security) x in
      let q = and_true (b.model == model) (bytes_eq b.name security) y in
      and_from _ _ (eq-eqb a.model b.model (eqb-true a.model model p.0 ∙ sym (eqb-true b.model model q.0)))
      (bytes_same a.name b.name (same_text a.name security (sym p.1) ∙ sym (same_text b.name security (sym q.1))))

  module _ (numbers : List ℕ) where
    -- no number is found
    pub no_group : ((n : ℕ) → n < length rows → key_at group_key rows n ≡ (model, security) → Contains numbers n) → None ≡ slice_get numbers 0 → find (is_of model security) rows ≡ None
    no_group all empty = none_found (is_of model security) rows (λ k d lt.
        elim (cases_Bool (is_of model security (get_or rows k d))) [
          | inl is ↦
              let found = all k lt (key_of k (get_or rows k d) (slice_get-get_or rows k d lt) is) in
              let inside = found.1 in
              absurd (omega (arith, inside, none_at numbers empty))
          | inr is_not ↦ is_not
        ])

    -- a number that is found is that of a row
    pub some_group : All (λ n. n < length rows) numbers → (n : ℕ) → Some n ≡ slice_get numbers 0 → n < length rows
    some_group within n first =
        subst (λ (m : ℕ). m < length rows) (get_or_from_slice_get numbers 0 n n (sym first)) (within 0 n (slice_get_within numbers 0 n (sym first)))

    -- the row of a number that is found
    pub the_group : KeysDiffer same_group rows → All (λ n. n < length rows) numbers → All (λ n. key_at group_key rows n ≡ (model, security)) numbers
        → (n : ℕ) → Some n ≡ slice_get numbers 0 → slice_get rows n ≡ find (is_of model security) rows
    the_group differ within only n first =
        let some : 0 < length numbers = slice_get_within numbers 0 n (sym first) in
        let is : get_or numbers 0 n ≡ n = get_or_from_slice_get numbers 0 n n (sym first) in
        let inside : n < length rows = subst (λ (m : ℕ). m < length rows) is (within 0 n some) in
        let same : key_at group_key rows n ≡ (model, security) = subst (λ (m : ℕ). key_at group_key rows m ≡ (model, security)) is (only 0 n some) in
        let p = placed rows n inside in
        let is_of_row = of_key n p.w p.is same in
        let before : (k : ℕ) (d : GroupRow) → k < n → is_of model security (get_or rows k d) ≡ false = λ k d lt.
        elim (cases_Bool (is_of model security (get_or rows k d))) [
          | inl also ↦
              let second : get_or rows n d ≡ p.w = get_or_from_slice_get rows n p.w d p.is in
              let key : same_group (get_or rows k d) (get_or rows n d) ≡ true = ap (same_group (get_or rows k d)) second ∙ one_key (get_or rows k d) p.w also is_of_row in
              absurd (both_ways (same_group (get_or rows k d) (get_or rows n d)) (differ k n d lt inside) key)
          | inr is_not ↦ is_not
        ] in
        p.is ∙ sym (first_found (is_of model security) rows n p.w p.is is_of_row before)

-- a candidate is a row of the group
pub group_of : (ask : Ask) (group : List ℕ) (row : AccessRow) → candidate ask group row ≡ true → row.group ≡ group
group_of ask group row pass =
    let level = and_true _ _ pass in
    let model = and_true _ _ level.0 in
    let context = and_true _ _ model.0 in
    same_text row.group group (sym context.0)
