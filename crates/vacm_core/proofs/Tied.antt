-- The least of the numbers that are tied is the first row that has the key of an earlier one.
use Rattle.std.proofs.Common.{◌≡◌, ℕ, ◌+◌, ◌-◌, ◌<◌, ◌≤◌, ◌==◌, Bool, true, false, nat_eq, slice_index, List, [], ◌∷◌, ◌++◌, length, take, get_or, All, Option, Some, None, refl, sym, ap, subst, ◌∙◌, arith, inl, inr, eq-eqb}
use Rattle.std.specs.Cmp.{IsTotalOrder, IsStrictWeakOrder}
use Rattle.std.specs.Cmp.Lexicographic.{options_total}
use Rattle.std.specs.List.{list_any, slice_get, IsDistinct}
use Rattle.std.specs.Option.{option_cmp}
use Rattle.std.specs.Ordering.{nat_cmp, ordering_then, ordering_reverse, is_lt, is_eq}
use Rattle.std.specs.declared.cmp.Ordering.{Ordering}
use Rattle.std.specs.declared.cmp.Ordering.TheVariants.{Less, Equal, Greater}
use Rattle.std.proofs.lemmas.Bool.{cases_Bool, cases_lt, cases_eq, both_ways, eqb-true}
use Rattle.std.proofs.lemmas.Cmp.{then_total, on_total, nat_cmp_total, nat_eq_equiv, tied_back}
use Rattle.std.proofs.lemmas.List.{get_or-take, get_or_default, length-take-le}
use Rattle.std.proofs.lemmas.List.Folds.{list_any_at, list_any_none, Any-from_list_any}
use Rattle.std.proofs.lemmas.List.Sorted.{ranks_by, sorted_far}
use Rattle.std.proofs.lemmas.Map.Keys.{IsDistinct-push, IsDistinct-from_apart, apart_from_distinct, ge_from_not_lt}
use Rattle.std.proofs.lemmas.Option.{slice_get-get_or, slice_get_past, get_or_from_slice_get}
use Rattle.vacm_core.proofs.Sound.{placed}
use Rattle.vacm_core.specs.Repeats.{repeats, repeats_at, IsFirstRepeat, cmp_at, comes_before, AreInOrder, is_tied, lesser, IsLeastTied}

-- ---- numbers that differ

pub one_more_differs : (n : ℕ) (numbers after : List ℕ) → All (λ k. k < n) numbers → IsDistinct nat_eq numbers → after ≡ numbers ++ n ∷ [] → IsDistinct nat_eq after
one_more_differs n numbers after below differ e =
    let apart : list_any (nat_eq n) numbers ≡ false =
    list_any_none (nat_eq n) numbers (λ k d lt.
    elim (cases_Bool (n == get_or numbers k d)) [
      | inl p ↦ let low = below k d lt in absurd (omega (arith, low, eqb-true n (get_or numbers k d) p))
      | inr q ↦ q
    ]) in
    subst (IsDistinct nat_eq) (sym e) (IsDistinct-push nat_eq_equiv numbers n differ apart)

pub none_differ : IsDistinct nat_eq []
none_differ = IsDistinct-from_apart nat_eq [] (λ i j d lt within. absurd (omega (arith, within)))

-- ---- answers of an order

equal_between : (o : Ordering) → is_lt o ≡ false → is_lt (ordering_reverse o) ≡ false → o ≡ Equal
equal_between Less e f = absurd cc
equal_between Equal e f = refl
equal_between Greater e f = absurd cc

first_not_lt : (o p : Ordering) → is_lt (ordering_then o p) ≡ false → is_lt o ≡ false
first_not_lt Less p e = absurd cc
first_not_lt Equal p e = refl
first_not_lt Greater p e = refl

is_equal : (o : Ordering) → is_eq o ≡ true → o ≡ Equal
is_equal Less e = absurd cc
is_equal Equal e = refl
is_equal Greater e = absurd cc

lower_is_lt : (a b : ℕ) → a < b → is_lt (nat_cmp a b) ≡ true
lower_is_lt a b lt =
    elim (cases_Bool (is_lt (nat_cmp a b))) [
      | inl p ↦ p
      | inr q ↦ absurd (omega (arith, lt, ge_from_not_lt a b q))
    ]

below_of : (a b : ℕ) → a ≤ b → (a == b) ≡ false → a < b
below_of a b le apart =
    elim (cases_eq a b) [
      | inl e ↦ absurd (both_ways (a == b) apart (eq-eqb a b e))
      | inr ne ↦ omega (arith, le, ne)
    ]

pub order_of_numbers : {R : Type 0} {cmp : R → R → Ordering} → IsTotalOrder cmp → (rows : List R) → IsStrictWeakOrder (comes_before cmp rows)
order_of_numbers total rows = ranks_by (then_total (on_total (λ (n : ℕ). slice_get rows n) (options_total total)) nat_cmp_total) (λ n. n)

module _ {R : Type 0} (same_key : R → R → Bool) (cmp : R → R → Ordering) (total : IsTotalOrder cmp) (law : (a b : R) → same_key a b ≡ is_eq (cmp a b))
    (rows : List R) (numbers : List ℕ) (order : AreInOrder cmp rows numbers) where
  at_total : IsTotalOrder (cmp_at cmp rows)
  at_total = on_total (λ (n : ℕ). slice_get rows n) (options_total total)

  -- no number that stands behind another comes before it
  far : (i j d : ℕ) → i ≤ j → j < length numbers → comes_before cmp rows (get_or numbers j d) (get_or numbers i d) ≡ false
  far = sorted_far (comes_before cmp rows) (order_of_numbers total rows) numbers order.sorted

  -- a number between two whose rows are equal has an equal row
  squeezed : (i p n : ℕ) → cmp_at cmp rows i n ≡ Equal → comes_before cmp rows n p ≡ false → comes_before cmp rows p i ≡ false → cmp_at cmp rows p n ≡ Equal
  squeezed i p n same up low =
      let above : is_lt (cmp_at cmp rows n p) ≡ false = first_not_lt (cmp_at cmp rows n p) (nat_cmp n p) up in
      let below : is_lt (cmp_at cmp rows p i) ≡ false = first_not_lt (cmp_at cmp rows p i) (nat_cmp p i) low in
      let turned : cmp_at cmp rows p i ≡ ordering_reverse (cmp_at cmp rows n p) = at_total.antisymm p i ∙ ap ordering_reverse (at_total.congr i n p same) in
      tied_back at_total n p (equal_between (cmp_at cmp rows n p) above (ap is_lt (sym turned) ∙ below))

  -- a number behind another whose row is equal is tied
  tied_behind : (i n : ℕ) → i < n → n < length rows → cmp_at cmp rows i n ≡ Equal → (k : ℕ) × (1 ≤ k) × (k < length numbers) × (is_tied cmp rows numbers k ≡ true) × (get_or numbers k 0 ≡ n)
  tied_behind i n lt within same =
      let here = order.all n within in
      let there = order.all i (omega (arith, lt, within)) in
      let j = here.0 in
      let h = there.0 in
      let j_within : j < length numbers = here.1 in
      let h_within : h < length numbers = there.1 in
      let at_j : get_or numbers j 0 ≡ n = sym (get_or_default numbers j n 0 j_within) ∙ here.2 in
      let at_h : get_or numbers h 0 ≡ i = sym (get_or_default numbers h i 0 h_within) ∙ there.2 in
      let first : comes_before cmp rows i n ≡ true = ap (λ (o : Ordering). is_lt (ordering_then o (nat_cmp i n))) same ∙ lower_is_lt i n lt in
      elim (cases_lt h j) [
        | inr le ↦
            let late : comes_before cmp rows i n ≡ false = (λ t. comes_before cmp rows (sym at_h t) (sym at_j t)) ∙ far j h 0 (omega (arith, le)) h_within in
            absurd (both_ways (comes_before cmp rows i n) late first)
        | inl ahead ↦
            let p = get_or numbers (j - 1) 0 in
            let up : comes_before cmp rows n p ≡ false = ap (λ (m : ℕ). comes_before cmp rows m p) (sym at_j) ∙ far (j - 1) j 0 (omega arith) j_within in
            let low : comes_before cmp rows p i ≡ false = ap (λ (m : ℕ). comes_before cmp rows p m) (sym at_h) ∙ far h (j - 1) 0 (omega (arith, ahead)) (omega (arith, j_within)) in
            let tied : is_tied cmp rows numbers j ≡ true = ap (λ (m : ℕ). is_eq (cmp_at cmp rows p m)) at_j ∙ ap is_eq (squeezed i p n same up low) in
            (j, omega (arith, ahead), j_within, tied, at_j)
      ]

  -- a number that is tied is that of a row that has the key of an earlier one
  tied_repeats : (k : ℕ) → 1 ≤ k → k < length numbers → is_tied cmp rows numbers k ≡ true → repeats_at same_key rows (get_or numbers k 0) ≡ true
  tied_repeats k some lt tied =
      let a = get_or numbers (k - 1) 0 in
      let b = get_or numbers k 0 in
      let equal : cmp_at cmp rows a b ≡ Equal = is_equal (cmp_at cmp rows a b) tied in
      let turned : cmp_at cmp rows b a ≡ Equal = tied_back at_total a b equal in
      let not_lt : is_lt (nat_cmp b a) ≡ false = ap (λ (o : Ordering). is_lt (ordering_then o (nat_cmp b a))) (sym turned) ∙ far (k - 1) k 0 (omega arith) lt in
      let le : a ≤ b = ge_from_not_lt b a not_lt in
      let apart : (a == b) ≡ false = apart_from_distinct nat_eq numbers (k - 1) k 0 order.once (omega (arith, some)) lt in
      let lower : a < b = below_of a b le apart in
      let within : b < length rows = order.within k 0 lt in
      let p = placed rows a (omega (arith, lower, within)) in
      let q = placed rows b within in
      let cmp_is : cmp p.w q.w ≡ Equal = (λ t. option_cmp cmp (sym p.is t) (sym q.is t)) ∙ equal in
      let same : same_key p.w q.w ≡ true = law p.w q.w ∙ ap is_eq cmp_is in
      let there : get_or (take b rows) a p.w ≡ p.w = get_or-take b rows a p.w lower ∙ get_or_from_slice_get rows a p.w p.w p.is in
      ap (repeats same_key (take b rows)) q.is
      ∙ list_any_at (λ e. same_key e q.w) (take b rows) a p.w (omega (arith, lower, length-take-le b rows (omega (arith, within)))) (ap (λ (e : R). same_key e q.w) there ∙ same)

  -- the earlier row
  earlier_of : (k : ℕ) → repeats_at same_key rows k ≡ true → (i : ℕ) × (i < k) × (k < length rows) × (cmp_at cmp rows i k ≡ Equal)
  earlier_of k h =
      elim (cases_lt k (length rows)) [
        | inr past ↦ absurd (both_ways (repeats_at same_key rows k) (ap (repeats same_key (take k rows)) (slice_get_past rows k past)) h)
        | inl within ↦
            let q = placed rows k within in
            let test : R → Bool = λ e. same_key e q.w in
            let any = Any-from_list_any test (take k rows) (ap (repeats same_key (take k rows)) (sym q.is) ∙ h) in
            let i = any.0 in
            let x = any.1 in
            let in_front : i < length (take k rows) = any.2 in
            let lower : i < k = omega (arith, in_front, length-take-le k rows (omega (arith, within))) in
            let there : slice_get rows i ≡ Some x = slice_get-get_or rows i x (omega (arith, lower, within)) ∙ ap Some (sym (get_or-take k rows i x lower) ∙ any.3) in
            let equal : cmp x q.w ≡ Equal = is_equal (cmp x q.w) (sym (law x q.w) ∙ any.4) in
            (i, lower, within, (λ t. option_cmp cmp (there t) (q.is t)) ∙ equal)
      ]

  pub first_from_least : (least : Option ℕ) → IsLeastTied cmp rows numbers least → IsFirstRepeat same_key rows least
  first_from_least None is =
      λ k.
      elim (cases_Bool (repeats_at same_key rows k)) [
        | inr q ↦ q
        | inl h ↦
            let e = earlier_of k h in
            let t = tied_behind e.0 k e.1 e.2 e.3 in
            let l = is.lowest t.0 t.1 t.2 t.3 in
            let clash = l.1 in
            absurd cc
      ]
  first_from_least (Some n) is =
      let f = is.found n refl in (
        subst (λ (m : ℕ). repeats_at same_key rows m ≡ true) f.4 (tied_repeats f.0 f.1 f.2 f.3),
        λ k lt.
            elim (cases_Bool (repeats_at same_key rows k)) [
              | inr q ↦ q
              | inl h ↦
                  let e = earlier_of k h in
                  let t = tied_behind e.0 k e.1 e.2 e.3 in
                  let l = is.lowest t.0 t.1 t.2 t.3 in
                  let clash : Some n ≡ Some l.0 = l.1 in
                  let one : n ≡ l.0 = cc in
                  absurd (omega (arith, lt, l.2, t.4, one))
            ],
      )

nowhere : {R : Type 0} (same_key : R → R → Bool) → ((a b : R) → same_key a b ≡ false) → (earlier : List R) (o : Option R) → repeats same_key earlier o ≡ false
nowhere same_key law earlier (Some row) = list_any_none (λ e. same_key e row) earlier (λ k d lt. law (get_or earlier k d) row)
nowhere same_key law earlier None = refl

-- where rows have no keys, no row has the key of an earlier one
pub none_repeats : {R : Type 0} (same_key : R → R → Bool) → ((a b : R) → same_key a b ≡ false) → (rows : List R) → IsFirstRepeat same_key rows None
none_repeats same_key law rows k =
    nowhere same_key law (take k rows) (slice_get rows k)

-- ---- the least of those so far

pub record TiedSoFar {R : Type 0} (cmp : R → R → Ordering) (rows : List R) (numbers : List ℕ) (end : ℕ) (least : Option ℕ) : Type 0 where
  pub found : (n : ℕ) → least ≡ Some n → (k : ℕ) × (1 ≤ k) × (k < length numbers) × (is_tied cmp rows numbers k ≡ true) × (slice_index numbers k ≡ n)
  pub lowest : (k : ℕ) → 1 ≤ k → k < end → is_tied cmp rows numbers k ≡ true → (n : ℕ) × (least ≡ Some n) × (n ≤ slice_index numbers k)

lesser_left : (least : Option ℕ) (m n : ℕ) → least ≡ Some m → lesser least n ≤ m
lesser_left (Some m') m n e = let same : m' ≡ m = cc in omega (arith, same)
lesser_left None m n e = absurd cc

lesser_right : (least : Option ℕ) (n : ℕ) → lesser least n ≤ n
lesser_right (Some m) n = omega arith
lesser_right None n = omega arith

module _ {R : Type 0} (cmp : R → R → Ordering) (rows : List R) (numbers : List ℕ) where
  pub none_tied : TiedSoFar cmp rows numbers 1 None
  none_tied = record { found = λ n e. absurd cc; lowest = λ k some lt e. absurd (omega (arith, some, lt)) }

  pub tie_skipped : (k : ℕ) (least : Option ℕ) → is_tied cmp rows numbers k ≡ false → TiedSoFar cmp rows numbers k least → TiedSoFar cmp rows numbers (k + 1) least
  tie_skipped k least not so = record {
    found = so.found;
    lowest = λ j some lt tied.
        elim (cases_lt j k) [
          | inl below ↦ so.lowest j some below tied
          | inr ge ↦
              let same : j ≡ k = omega (arith, ge, lt) in
              absurd (both_ways (is_tied cmp rows numbers k) not (subst (λ (m : ℕ). is_tied cmp rows numbers m ≡ true) same tied))
        ];
  }

  taken : (k : ℕ) (least : Option ℕ) → 1 ≤ k → k < length numbers → is_tied cmp rows numbers k ≡ true → TiedSoFar cmp rows numbers k least
      → (n : ℕ) → lesser least (slice_index numbers k) ≡ n → (j : ℕ) × (1 ≤ j) × (j < length numbers) × (is_tied cmp rows numbers j ≡ true) × (slice_index numbers j ≡ n)
  taken k None some lt tied so n e = (k, some, lt, tied, e)
  taken k (Some m) some lt tied so n e =
      let f = so.found m refl in
      elim (cases_lt m (slice_index numbers k)) [
        | inl low ↦
            let is : m ≡ n = omega (arith, low, e) in
            (f.0, f.1, f.2, f.3, f.4 ∙ is)
        | inr high ↦ (k, some, lt, tied, omega (arith, high, e))
      ]

  pub tie_taken : (k : ℕ) (least : Option ℕ) → 1 ≤ k → k < length numbers → is_tied cmp rows numbers k ≡ true → TiedSoFar cmp rows numbers k least
      → TiedSoFar cmp rows numbers (k + 1) (Some (lesser least (slice_index numbers k)))
  tie_taken k least some lt tied so = record {
    found = λ n e. let is : lesser least (slice_index numbers k) ≡ n = cc in taken k least some lt tied so n is;
    lowest = λ j from to also.
        let all = lesser least (slice_index numbers k) in
        elim (cases_lt j k) [
          | inl below ↦
              let l = so.lowest j from below also in
              (all, refl, omega (arith, l.2, lesser_left least l.0 (slice_index numbers k) l.1))
          | inr ge ↦
              let same : j ≡ k = omega (arith, ge, to) in
              (all, refl, subst (λ (m : ℕ). all ≤ slice_index numbers m) (sym same) (lesser_right least (slice_index numbers k)))
        ];
  }

  pub tied_to_the_end : (end : ℕ) (least : Option ℕ) → length numbers ≤ end → TiedSoFar cmp rows numbers end least → IsLeastTied cmp rows numbers least
  tied_to_the_end end least le so = record { found = so.found; lowest = λ k some lt. so.lowest k some (omega (arith, le, lt)) }
