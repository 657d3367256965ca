-- Whether a view hides each name that begins with a prefix, by its rows.
use Rattle.std.proofs.Common.{◌≡◌, ◌↔◌, ◌==◌, ◌||◌, not, Bool, true, false, ◌&&◌, ℕ, ◌+◌, ◌<◌, List, [], ◌∷◌, ◌++◌, length, take, drop, get_or, bytes_eq, eq-eqb, Option, Some, None, refl, sym, ap, ◌∙◌, inl, inr}
use Rattle.std.specs.Cmp.{IsStrictWeakOrder}
use Rattle.std.specs.List.{list_any, list_all, slice_get}
use Rattle.std.proofs.lemmas.Bool.{cases_Bool, both_ways, and_from, and_left, or_cases, or_parts, or_from, or_left, or_right, not-true, not_from_false}
use Rattle.std.proofs.lemmas.Bool.Decides.{eqb_tells}
use Rattle.std.proofs.lemmas.List.{append-nil}
use Rattle.std.proofs.lemmas.List.Folds.{list_any_at, list_all_at, Any-from_list_any}
use Rattle.std.proofs.lemmas.Option.{get_or_from_slice_get, slice_get_within}
use Rattle.oid_core.specs.Order.{is_prefix}
use Rattle.oid_core.proofs.OrderLaws.{prefix_of}
use Rattle.vacm_core.specs.declared.tables.FamilyRow.{FamilyRow}
use Rattle.vacm_core.specs.Best.{is_unbeaten, unbeaten}
use Rattle.vacm_core.specs.Families.{mask_bit, agrees_from, matches, family_beats, by_type, by_family, is_included, in_view}
use Rattle.vacm_core.specs.Hiding.{may_match, may_include, excludes_all, beats_included, hides_all}
use Rattle.vacm_core.specs.Orders.{family_order}
use Rattle.vacm_core.proofs.Agrees.{and_true}
use Rattle.vacm_core.proofs.Decided.{none_where_none_passes, some_is_unbeaten}

-- ---- a subtree, a prefix, and a name that it begins

-- a subtree that agrees with a name agrees with its front, as far as both reach
pub front_agrees : (k : ℕ) (mask subtree prefix name : List ℕ) → is_prefix prefix name ≡ true → agrees_from k mask subtree name ≡ true → agrees_from k mask (take (length prefix) subtree) prefix ≡ true
front_agrees k mask subtree [] name h e = refl
front_agrees k mask [] (x ∷ prefix) name h e = refl
front_agrees k mask (s ∷ subtree) (x ∷ prefix) [] h e = absurd cc
front_agrees k mask (s ∷ subtree) (x ∷ prefix) (n ∷ name) h e = elim (eqb_tells x n) [
  | inl same ↦
      let rest : is_prefix prefix name ≡ true = rw same.0 at h in
      let parts = and_true (not (mask_bit mask k) || s == n) (agrees_from (k + 1) mask subtree name) e in
      let here : (not (mask_bit mask k) || s == x) ≡ true = ap (λ (y : ℕ). not (mask_bit mask k) || s == y) same.1 ∙ parts.0 in
      and_from _ _ here (front_agrees (k + 1) mask subtree prefix name rest parts.1)
  | inr other ↦ let fails : false ≡ true = rw other.0 at h in absurd (cc)
]

-- a subtree that agrees with a prefix agrees with each name that the prefix begins
pub longer_agrees : (k : ℕ) (mask subtree prefix name : List ℕ) → is_prefix prefix name ≡ true → agrees_from k mask subtree prefix ≡ true → agrees_from k mask subtree name ≡ true
longer_agrees k mask [] prefix name h e = refl
longer_agrees k mask (s ∷ subtree) [] name h e = absurd cc
longer_agrees k mask (s ∷ subtree) (x ∷ prefix) [] h e = absurd cc
longer_agrees k mask (s ∷ subtree) (x ∷ prefix) (n ∷ name) h e = elim (eqb_tells x n) [
  | inl same ↦
      let rest : is_prefix prefix name ≡ true = rw same.0 at h in
      let parts = and_true (not (mask_bit mask k) || s == x) (agrees_from (k + 1) mask subtree prefix) e in
      let here : (not (mask_bit mask k) || s == n) ≡ true = ap (λ (y : ℕ). not (mask_bit mask k) || s == y) (sym same.1) ∙ parts.0 in
      and_from _ _ here (longer_agrees (k + 1) mask subtree prefix name rest parts.1)
  | inr other ↦ let fails : false ≡ true = rw other.0 at h in absurd (cc)
]

agrees_itself : (k : ℕ) (mask subtree : List ℕ) → agrees_from k mask subtree subtree ≡ true
agrees_itself k mask [] = refl
agrees_itself k mask (s ∷ subtree) = and_from _ _ (or_right (not (mask_bit mask k)) (s == s) (eq-eqb s s refl)) (agrees_itself (k + 1) mask subtree)

-- what agrees with a prefix as far as both reach agrees with a name that the prefix begins: it goes on as the subtree does
front_extends : (k : ℕ) (mask subtree prefix : List ℕ) → agrees_from k mask (take (length prefix) subtree) prefix ≡ true → agrees_from k mask subtree (prefix ++ drop (length prefix) subtree) ≡ true
front_extends k mask [] prefix e = refl
front_extends k mask (s ∷ subtree) [] e = agrees_itself k mask (s ∷ subtree)
front_extends k mask (s ∷ subtree) (x ∷ prefix) e =
    let parts = and_true (not (mask_bit mask k) || s == x) (agrees_from (k + 1) mask (take (length prefix) subtree) prefix) e in
    and_from _ _ parts.0 (front_extends (k + 1) mask subtree prefix parts.1)

module _ (view prefix : List ℕ) (row : FamilyRow) where
  pub some_below : (may_match view prefix row ≡ true) ↔ ((rest : List ℕ) × (matches view (prefix ++ rest) row ≡ true))
  some_below = (
    (λ e. let parts = and_true (bytes_eq row.view view) (agrees_from 0 row.mask (take (length prefix) row.subtree) prefix) e in
        (drop (length prefix) row.subtree, and_from _ _ parts.0 (front_extends 0 row.mask row.subtree prefix parts.1))),
    (λ w. let parts = and_true (bytes_eq row.view view) (agrees_from 0 row.mask row.subtree (prefix ++ w.0)) w.1 in
        and_from _ _ parts.0 (front_agrees 0 row.mask row.subtree prefix (prefix ++ w.0) (prefix_of prefix w.0) parts.1)),
  )

  pub all_below : (matches view prefix row ≡ true) ↔ ((rest : List ℕ) → matches view (prefix ++ rest) row ≡ true)
  all_below = (
    (λ e rest. let parts = and_true (bytes_eq row.view view) (agrees_from 0 row.mask row.subtree prefix) e in
        and_from _ _ parts.0 (longer_agrees 0 row.mask row.subtree prefix (prefix ++ rest) (prefix_of prefix rest) parts.1)),
    (λ h. ap (λ (name : List ℕ). matches view name row) (sym (append-nil prefix)) ∙ h []),
  )

-- ---- tests of each row

all_more : {R : Type 0} (p q : R → Bool) → ((x : R) → p x ≡ true → q x ≡ true) → (xs : List R) → list_all p xs ≡ true → list_all q xs ≡ true
all_more p q more [] e = refl
all_more p q more (x ∷ xs) e =
    let parts = and_true (p x) (list_all p xs) e in
    and_from _ _ (more x parts.0) (all_more p q more xs parts.1)

all_at : {R : Type 0} (p : R → Bool) (xs : List R) (k : ℕ) (d : R) → k < length xs → list_all p xs ≡ true → p (get_or xs k d) ≡ true
all_at p xs k d within e = elim (cases_Bool (p (get_or xs k d))) [
  | inl holds ↦ holds
  | inr fails ↦ absurd (both_ways (list_all p xs) (list_all_at p xs k d within fails) e)
]

-- where no element passes the first test, each passes one that only those are to pass
all_where_none : {R : Type 0} (p q : R → Bool) (xs : List R) → list_any p xs ≡ false → list_all (λ x. not (p x) || q x) xs ≡ true
all_where_none p q [] e = refl
all_where_none p q (x ∷ xs) e =
    let parts = or_parts (p x) (list_any p xs) e in
    and_from _ _ (or_left _ _ (not_from_false (p x) parts.0)) (all_where_none p q xs parts.1)

none_of_both : {R : Type 0} (p q : R → Bool) (xs : List R) → list_any p xs ≡ false → list_any (λ x. p x && q x) xs ≡ false
none_of_both p q [] e = refl
none_of_both p q (x ∷ xs) e =
    let parts = or_parts (p x) (list_any p xs) e in
    or_from _ _ (and_left _ _ parts.0) (none_of_both p q xs parts.1)

or_none : (x y : Bool) → y ≡ false → x ≡ (x || y)
or_none true y e = refl
or_none false y e = sym e

-- ---- the row that decides among those that pass stands for them all

module _ {R : Type 0} {beats : R → R → Bool} (o : IsStrictWeakOrder beats) (passes may : R → Bool) (rows : List R) where
  abbrev beats_all : R → Bool
  beats_all row = list_all (λ other. not (may other) || beats row other) rows

  abbrev pub some_beats : Bool
  some_beats = not (list_any may rows) || list_any (λ row. passes row && beats_all row) rows

  -- no row decides, so none passes
  pub none_decides : unbeaten passes beats rows ≡ None → not (list_any may rows) ≡ some_beats
  none_decides e = or_none (not (list_any may rows)) _ (none_of_both passes beats_all rows ((none_where_none_passes o passes rows).0 e))

  -- a row that does not lose to another beats what the other beats
  beats_too : (row other : R) → beats other row ≡ false → beats_all other ≡ true → beats_all row ≡ true
  beats_too row other not_below all =
      all_more (λ x. not (may x) || beats other x) (λ x. not (may x) || beats row x)
      (λ x e. elim (or_cases (not (may x)) (beats other x) e) [
        | inl none ↦ or_left _ _ none
        | inr over ↦ elim (cases_Bool (beats row x)) [
          | inl holds ↦ or_right _ _ holds
          | inr fails ↦ absurd (both_ways (beats other x) (o.chain other row x not_below fails) over)
        ]
      ])
      rows all

  module _ (n : ℕ) (row : R) (here : slice_get rows n ≡ Some row) (best : is_unbeaten passes beats rows row ≡ true) where
    within : n < length rows
    within = slice_get_within rows n row here

    is_row : get_or rows n row ≡ row
    is_row = get_or_from_slice_get rows n row row here

    not_below : (k : ℕ) (other : R) → k < length rows → get_or rows k other ≡ other → passes other ≡ true → beats other row ≡ false
    not_below k other lt at pass =
        let none = not-true _ (and_true (passes row) (not (list_any (λ x. passes x && beats x row) rows)) best).1 in
        elim (cases_Bool (beats other row)) [
          | inr fails ↦ fails
          | inl holds ↦ absurd (both_ways (list_any (λ x. passes x && beats x row) rows) none
              (list_any_at (λ x. passes x && beats x row) rows k other lt (ap (λ (x : R). passes x && beats x row) at ∙ and_from _ _ pass holds)))
        ]

    best_beats : some_beats ≡ true → beats_all row ≡ true
    best_beats e = elim (or_cases (not (list_any may rows)) (list_any (λ x. passes x && beats_all x) rows) e) [
      | inl none ↦ all_where_none may (beats row) rows (not-true _ none)
      | inr some ↦
          let any = Any-from_list_any (λ x. passes x && beats_all x) rows some in
          let parts = and_true (passes any.1) (beats_all any.1) any.4 in
          beats_too row any.1 (not_below any.0 any.1 any.2 any.3 parts.0) parts.1
    ]

    pub some_decides : beats_all row ≡ some_beats
    some_decides = elim (cases_Bool (beats_all row)) [
      | inl holds ↦
          let pass = (and_true (passes row) (not (list_any (λ x. passes x && beats x row) rows)) best).0 in
          holds ∙ sym (or_right (not (list_any may rows)) _
          (list_any_at (λ x. passes x && beats_all x) rows n row within (ap (λ (x : R). passes x && beats_all x) is_row ∙ and_from _ _ pass holds)))
      | inr fails ↦ elim (cases_Bool some_beats) [
        | inl some ↦ absurd (both_ways (beats_all row) fails (best_beats some))
        | inr none ↦ fails ∙ sym none
      ]
    ]

module _ (rows : List FamilyRow) (view prefix : List ℕ) where
  pub hides_by_row : (n : ℕ) (row : FamilyRow) → Some n ≡ unbeaten (excludes_all view prefix) family_beats rows → row ≡ get_or rows n row → beats_included rows view prefix row ≡ hides_all rows view prefix
  unfolding hides_all
  hides_by_row n row e is =
      let best = some_is_unbeaten family_order (excludes_all view prefix) rows n (sym e) in
      let same : row ≡ best.row = is ∙ get_or_from_slice_get rows n best.row row best.here in
      ap (beats_included rows view prefix) same
      ∙ some_decides family_order (excludes_all view prefix) (may_include view prefix) rows n best.row best.here best.unbeaten

  pub hides_by_none : None ≡ unbeaten (excludes_all view prefix) family_beats rows → not (list_any (may_include view prefix) rows) ≡ hides_all rows view prefix
  unfolding hides_all
  hides_by_none e = none_decides family_order (excludes_all view prefix) (may_include view prefix) rows (sym e)

-- ---- what the rows hide is not in the view

excluded : (n : ℕ) (row : FamilyRow) → row.included ≡ false → is_included (by_type n (Some row)) ≡ false
excluded n row e = rw e refl

module _ (families : List FamilyRow) (view prefix name : List ℕ) (begins : is_prefix prefix name ≡ true) where
  -- a row that includes the name may include one below the prefix
  may_be : (row : FamilyRow) → row.included ≡ true → matches view name row ≡ true → may_include view prefix row ≡ true
  may_be row included fits =
      let parts = and_true (bytes_eq row.view view) (agrees_from 0 row.mask row.subtree name) fits in
      and_from _ _ included (and_from _ _ parts.0 (front_agrees 0 row.mask row.subtree prefix name begins parts.1))

  -- a row that excludes each name below the prefix has the name
  has_name : (row : FamilyRow) → excludes_all view prefix row ≡ true → matches view name row ≡ true
  has_name row e =
      let all = and_true (not row.included) (matches view prefix row) e in
      let parts = and_true (bytes_eq row.view view) (agrees_from 0 row.mask row.subtree prefix) all.1 in
      and_from _ _ parts.0 (longer_agrees 0 row.mask row.subtree prefix name begins parts.1)

  -- the row that decides on the name does not include it
  decides_against : (n : ℕ) (row : FamilyRow) → slice_get families n ≡ Some row → is_unbeaten (matches view name) family_beats families row ≡ true → hides_all families view prefix ≡ true → row.included ≡ false
  unfolding hides_all
  decides_against n row here best h = elim (cases_Bool row.included) [
    | inr fails ↦ fails
    | inl included ↦
        let within = slice_get_within families n row here in
        let is_row : get_or families n row ≡ row = get_or_from_slice_get families n row row here in
        let parts = and_true (matches view name row) (not (list_any (λ other. matches view name other && family_beats other row) families)) best in
        let may = may_be row included parts.0 in
        absurd (elim (or_cases (not (list_any (may_include view prefix) families)) (list_any (λ row. excludes_all view prefix row && beats_included families view prefix row) families) h) [
          | inl none ↦ both_ways (list_any (may_include view prefix) families) (not-true _ none)
              (list_any_at (may_include view prefix) families n row within (ap (may_include view prefix) is_row ∙ may))
          | inr some ↦
              let any = Any-from_list_any (λ row. excludes_all view prefix row && beats_included families view prefix row) families some in
              let over = any.1 in
              let both = and_true (excludes_all view prefix over) (beats_included families view prefix over) any.4 in
              let each = all_at (λ other. not (may_include view prefix other) || family_beats over other) families n row within both.1 in
              let beats : family_beats over row ≡ true = elim (or_cases (not (may_include view prefix row)) (family_beats over row) (ap (λ (r : FamilyRow). not (may_include view prefix r) || family_beats over r) (sym is_row) ∙ each)) [
                | inl nay ↦ absurd (both_ways (may_include view prefix row) (not-true _ nay) may)
                | inr holds ↦ holds
              ] in
              both_ways (list_any (λ other. matches view name other && family_beats other row) families) (not-true _ parts.1)
              (list_any_at (λ other. matches view name other && family_beats other row) families any.0 over any.2
              (ap (λ (r : FamilyRow). matches view name r && family_beats r row) any.3 ∙ and_from _ _ (has_name over both.0) beats))
        ])
  ]

  answer_hidden : (decides : Option ℕ) → unbeaten (matches view name) family_beats families ≡ decides → hides_all families view prefix ≡ true → is_included (by_family families decides) ≡ false
  answer_hidden None e h = refl
  answer_hidden (Some n) e h =
      let best = some_is_unbeaten family_order (matches view name) families n e in
      ap (λ (r : Option FamilyRow). is_included (by_type n r)) best.here
      ∙ excluded n best.row (decides_against n best.row best.here best.unbeaten h)

  pub hidden : hides_all families view prefix ≡ true → in_view families view name ≡ false
  hidden h = answer_hidden (unbeaten (matches view name) family_beats families) refl h
