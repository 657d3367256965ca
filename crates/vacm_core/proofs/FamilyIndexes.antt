-- The family rows in the order of their indexes: which comes behind some numbers, and which has an
-- index.
use Rattle.std.proofs.Common.{◌≡◌, ℕ, ◌<◌, ◌≤◌, Bool, true, false, not, if◌then◌else◌, nat_lt, List, [], ◌∷◌, ◌++◌, length, get_or, position, Option, Some, None, refl, sym, ap, subst, ◌∙◌, arith, inl, inr}
use Rattle.std.specs.Cmp.{IsStrictWeakOrder}
use Rattle.std.specs.Cmp.Lexicographic.{slice_cmp, same_text}
use Rattle.std.specs.FinMap.{nat_cmp-IsAntisymmetric}
use Rattle.std.specs.List.{slice_get, position_or_len}
use Rattle.std.specs.List.Sorted.{IsPartitionPoint}
use Rattle.std.specs.Ordering.{nat_cmp, ordering_then, is_lt, is_le, is_gt, is_eq}
use Rattle.std.specs.declared.cmp.Ordering.{Ordering}
use Rattle.std.specs.declared.cmp.Ordering.TheVariants.{Less, Equal, Greater}
use Rattle.std.proofs.lemmas.Bool.{cases_Bool, cases_lt, both_ways, and_from, lt-ltb, le-ltb}
use Rattle.std.proofs.lemmas.Cmp.{nat_list_cmp_total}
use Rattle.std.proofs.lemmas.Cmp.{nat_cmp_total, nat_list_cmp_total, tied_itself}
use Rattle.std.proofs.lemmas.List.Sums.{prefix_len_is}
use Rattle.std.proofs.lemmas.List.Sorted.{ranks_by, sorted_far}
use Rattle.std.proofs.lemmas.Map.Text.{is_eq-slice_cmp}
use Rattle.std.proofs.lemmas.Option.{slice_get-get_or, get_or_from_slice_get, slice_get_within, none-some}
use Rattle.oid_core.proofs.OrderLaws.{cmp_equal}
use Rattle.vacm_core.specs.declared.tables.FamilyRow.{FamilyRow}
use Rattle.vacm_core.specs.FamilyIndex.{family_index, index_before, is_behind, next_family, has_index, family_at}
use Rattle.vacm_core.specs.Keys.{key_cmp, key_at, key_or, key_before, index_key, IsIndex}
use Rattle.vacm_core.specs.Rows.{same_family}
use Rattle.vacm_core.specs.Tables.{KeysDiffer}
use Rattle.vacm_core.specs.Trees.{IsFit, Covers, IsNoBetter}
use Rattle.vacm_core.proofs.FamilyWays.{split_same}
use Rattle.vacm_core.proofs.Indexes.{key_order}
use Rattle.vacm_core.proofs.Ties.{Ties, neither, bytes_same, one_only}
use Rattle.vacm_core.proofs.Unbeaten.{decides}

-- ---- indexes compared part by part

then_assoc : (o p q : Ordering) → ordering_then (ordering_then o p) q ≡ ordering_then o (ordering_then p q)
then_assoc Less p q = refl
then_assoc Equal p q = refl
then_assoc Greater p q = refl

pub cmp_append : (a b x y : List ℕ) → length a ≡ length b → slice_cmp nat_cmp (a ++ x) (b ++ y) ≡ ordering_then (slice_cmp nat_cmp a b) (slice_cmp nat_cmp x y)
cmp_append [] [] x y e = refl
cmp_append [] (v ∷ b) x y e = absurd (omega arith)
cmp_append (u ∷ a) [] x y e = absurd (omega arith)
cmp_append (u ∷ a) (v ∷ b) x y e =
    ap (ordering_then (nat_cmp u v)) (cmp_append a b x y (omega arith)) ∙ sym (then_assoc (nat_cmp u v) (slice_cmp nat_cmp a b) (slice_cmp nat_cmp x y))

-- what two lists begin with alike decides nothing
pub cmp_behind : (u : ℕ) (a x y : List ℕ) → slice_cmp nat_cmp (u ∷ (a ++ x)) (u ∷ (a ++ y)) ≡ slice_cmp nat_cmp x y
cmp_behind u a x y =
    ap (λ (o : Ordering). ordering_then o (slice_cmp nat_cmp (a ++ x) (a ++ y))) (tied_itself nat_cmp_total u)
    ∙ cmp_append a a x y refl
    ∙ ap (λ (o : Ordering). ordering_then o (slice_cmp nat_cmp x y)) (tied_itself nat_list_cmp_total a)

module _ (a b : FamilyRow) where
  abbrev long : Ordering
  long = nat_cmp (length a.view) (length b.view)

  abbrev view : Ordering
  view = slice_cmp nat_cmp a.view b.view

  abbrev deep : Ordering
  deep = nat_cmp (length a.subtree) (length b.subtree)

  abbrev subtree : Ordering
  subtree = slice_cmp nat_cmp a.subtree b.subtree

  abbrev behind : Ordering
  behind = slice_cmp nat_cmp (a.view ++ length a.subtree ∷ a.subtree) (b.view ++ length b.subtree ∷ b.subtree)

  by_long : (o : Ordering) → long ≡ o → ordering_then (ordering_then (ordering_then o view) deep) subtree ≡ ordering_then o behind
  by_long Less e = refl
  by_long Equal e =
      let same : length a.view ≡ length b.view = nat_cmp-IsAntisymmetric (length a.view) (length b.view) e in
      then_assoc view deep subtree ∙ sym (cmp_append a.view b.view (length a.subtree ∷ a.subtree) (length b.subtree ∷ b.subtree) same)
  by_long Greater e = refl

  -- by the lengths and the parts in turn
  pub cmp_parts : ordering_then (ordering_then (ordering_then long view) deep) subtree ≡ slice_cmp nat_cmp (family_index a) (family_index b)
  cmp_parts = by_long long refl

-- rows of one index have one key
one_index : (a b : FamilyRow) → family_index a ≡ family_index b → same_family a b ≡ true
one_index a b e =
    let long : length a.view ≡ length b.view = cc in
    let rest : a.view ++ length a.subtree ∷ a.subtree ≡ b.view ++ length b.subtree ∷ b.subtree = cc in
    let parts = split_same a.view b.view (length a.subtree ∷ a.subtree) (length b.subtree ∷ b.subtree) long rest in
    let behind : length a.subtree ∷ a.subtree ≡ length b.subtree ∷ b.subtree = parts.1 in
    let subtree : a.subtree ≡ b.subtree = cc in
    and_from _ _ (bytes_same a.view b.view parts.0) (bytes_same a.subtree b.subtree subtree)

pub index_order : IsStrictWeakOrder index_before
index_order = ranks_by nat_list_cmp_total family_index

index_ties : (numbers : List ℕ) → Ties (is_behind numbers) index_before same_family
index_ties numbers a b pass_a pass_b not_a not_b =
    one_index a b (cmp_equal (family_index a) (family_index b)
    (neither (slice_cmp nat_cmp) nat_list_cmp_total (family_index a) (family_index b) (slice_cmp nat_cmp (family_index a) (family_index b)) refl not_a not_b))

-- ---- what is found by halves

gt_from : (o : Ordering) → is_le o ≡ false → is_gt o ≡ true
gt_from Less e = absurd cc
gt_from Equal e = absurd cc
gt_from Greater e = refl

never_both : (o : Ordering) → is_le o ≡ true → is_gt o ≡ true → ⊥
never_both Less e f = absurd cc
never_both Equal e f = absurd cc
never_both Greater e f = absurd cc

lt_not_eq : (o : Ordering) → is_lt o ≡ true → is_eq o ≡ true → ⊥
lt_not_eq Less e f = absurd cc
lt_not_eq Equal e f = absurd cc
lt_not_eq Greater e f = absurd cc

eq_from : (o : Ordering) → is_eq o ≡ true → o ≡ Equal
eq_from Less e = absurd cc
eq_from Equal e = refl
eq_from Greater e = absurd cc

position_is : {R : Type 0} (p : R → Bool) (xs : List R) (n : ℕ) (d : R) → n < length xs → p (get_or xs n d) ≡ true → ((k : ℕ) → k < n → p (get_or xs k d) ≡ false) → position p xs ≡ Some n
position_is p xs n d lt here before =
    let long : position_or_len p xs ≡ n = prefix_len_is (λ x. not (p x)) xs n d (omega arith) (λ k below. ap not (before k below)) (λ _. ap not here) in
    ap (λ (m : ℕ). if nat_lt m (length xs) then Some m else None) long ∙ ap (λ (b : Bool). if b then Some n else None) (lt-ltb n (length xs) lt)

position_none : {R : Type 0} (p : R → Bool) (xs : List R) → ((k : ℕ) (d : R) → k < length xs → p (get_or xs k d) ≡ false) → position p xs ≡ None
position_none p [] none = refl
position_none p (x ∷ xs) none =
    let all = x ∷ xs in
    let long : position_or_len p all ≡ length all = prefix_len_is (λ x. not (p x)) all (length all) x (omega arith) (λ k below. ap not (none k x below)) (λ lt. absurd (omega arith)) in
    ap (λ (m : ℕ). if nat_lt m (length all) then Some m else None) long ∙ ap (λ (b : Bool). if b then Some (length all) else None) (le-ltb (length all) (length all) (omega arith))

has_one : (rows : List FamilyRow) (asked : List ℕ) (a b : FamilyRow) → has_index asked a ≡ true → has_index asked b ≡ true → same_family a b ≡ true
has_one rows asked a b x y = one_index a b (same_text (family_index a) asked (sym x) ∙ sym (same_text (family_index b) asked (sym y)))

only_at : (rows : List FamilyRow) (asked : List ℕ) → KeysDiffer same_family rows → (n : ℕ) → n < length rows → ((d : FamilyRow) → has_index asked (get_or rows n d) ≡ true) → Some n ≡ family_at rows asked
only_at [] asked differ n lt has = absurd (omega arith)
only_at (x ∷ xs) asked differ n lt has =
    sym (position_is (has_index asked) (x ∷ xs) n x lt (has x) (λ k below.
    elim (cases_Bool (has_index asked (get_or (x ∷ xs) k x))) [
      | inl here ↦ absurd (both_ways (same_family (get_or (x ∷ xs) k x) (get_or (x ∷ xs) n x)) (differ k n x below lt) (has_one (x ∷ xs) asked (get_or (x ∷ xs) k x) (get_or (x ∷ xs) n x) here (has x)))
      | inr not ↦ not
    ]))

module _ (rows : List FamilyRow) (asked : List ℕ) where
  abbrev pub at : ℕ → Ordering
  at n = key_cmp (key_at index_key rows n) (0, asked)

  at_row : (n : ℕ) (row : FamilyRow) → slice_get rows n ≡ Some row → at n ≡ slice_cmp nat_cmp (family_index row) asked
  at_row n row here = ap (λ (o : Option FamilyRow). key_cmp (key_or index_key o) (0, asked)) here

  module _ (numbers : List ℕ) (is : IsIndex index_key rows numbers) where
    -- of rows whose numbers stand one behind the other, the second is not before the first
    not_before : (i j : ℕ) (d : ℕ) (a b : FamilyRow) → i ≤ j → j < length numbers → slice_get rows (get_or numbers i d) ≡ Some a → slice_get rows (get_or numbers j d) ≡ Some b → index_before b a ≡ false
    not_before i j d a b le lt here there =
        let far = sorted_far (key_before index_key rows) (key_order index_key rows) numbers is.sorted i j d le lt in
        (λ k. is_lt (key_cmp (key_or index_key (sym there k)) (key_or index_key (sym here k)))) ∙ far

    module _ (end : ℕ) (point : IsPartitionPoint (λ n. is_le (at n) ≡ true) (λ n. is_le (at n) ≡ false) numbers end) where
      next_fit : (r : Option ℕ) → r ≡ slice_get numbers end → IsFit (is_behind asked) rows r
      next_fit None e = tt
      next_fit (Some n) e =
          let inside : end < length numbers = slice_get_within numbers end n (sym e) in
          let place : get_or numbers end n ≡ n = get_or_from_slice_get numbers end n n (sym e) in
          let within : n < length rows = subst (λ (m : ℕ). m < length rows) place (is.within end n inside) in (
            within,
            λ d.
                let here = slice_get-get_or rows n d within in
                let past : is_le (at n) ≡ false = ap (λ (m : ℕ). is_le (at m)) (sym place) ∙ point.1 end n (omega arith) inside in
                gt_from _ (ap is_le (sym (at_row n (get_or rows n d) here)) ∙ past),
          )

      covers_from : (r : Option ℕ) → r ≡ slice_get numbers end → (m : ℕ) (row : FamilyRow) → slice_get rows m ≡ Some row → (j : ℕ) → j < length numbers → get_or numbers j m ≡ m → end ≤ j
          → IsNoBetter index_before rows row r
      covers_from None e m row here j inside place le = let there = slice_get-get_or numbers end m (omega arith) in absurd (none-some (get_or numbers end m) (e ∙ there))
      covers_from (Some n) e m row here j inside place le =
          let at_end : get_or numbers end m ≡ n = get_or_from_slice_get numbers end n m (sym e) in
          let within : n < length rows = subst (λ (k : ℕ). k < length rows) at_end (is.within end m (omega arith)) in
          not_before end j m (get_or rows n row) row le inside (ap (slice_get rows) at_end ∙ slice_get-get_or rows n row within) (ap (slice_get rows) place ∙ here)

      next_covers : (r : Option ℕ) → r ≡ slice_get numbers end → (m : ℕ) → Covers (is_behind asked) index_before rows r m
      next_covers r e m row here pass =
          let found = is.all m (slice_get_within rows m row here) in
          let j = found.0 in
          elim (cases_lt j end) [
            | inl lt ↦
                let low : is_le (at m) ≡ true = ap (λ (k : ℕ). is_le (at k)) (sym found.2) ∙ point.0 j m (omega arith) lt in
                absurd (never_both (slice_cmp nat_cmp (family_index row) asked) (ap is_le (sym (at_row m row here)) ∙ low) pass)
            | inr ge ↦ covers_from r e m row here j found.1 found.2 ge
          ]

      -- the row at the end of those that are not behind
      pub next_found : KeysDiffer same_family rows → (r : Option ℕ) → r ≡ slice_get numbers end → r ≡ next_family rows asked
      next_found differ r e =
          decides index_order (is_behind asked) rows (one_only (is_behind asked) index_before same_family rows differ (index_ties asked)) r (next_fit r e) (next_covers r e)

    module _ (first : ℕ) (point : IsPartitionPoint (λ n. is_lt (at n) ≡ true) (λ n. is_lt (at n) ≡ false) numbers first) where
      -- a row of the index is the first that is not before it
      first_is : (m : ℕ) (row : FamilyRow) → slice_get rows m ≡ Some row → is_eq (at m) ≡ true → (n : ℕ) × (slice_get numbers first ≡ Some n) × (is_eq (at n) ≡ true)
      first_is m row here same =
          let found = is.all m (slice_get_within rows m row here) in
          let j = found.0 in
          elim (cases_lt j first) [
            | inl lt ↦
                let low : is_lt (at m) ≡ true = ap (λ (k : ℕ). is_lt (at k)) (sym found.2) ∙ point.0 j m (omega arith) lt in
                absurd (lt_not_eq (at m) low same)
            | inr ge ↦
                let n = get_or numbers first m in
                let inside : first < length numbers = omega (arith, found.1, ge) in
                let within : n < length rows = is.within first m inside in
                let there = slice_get-get_or rows n row within in
                let high : is_lt (at n) ≡ false = point.1 first m (omega arith) inside in
                let far = not_before first j m (get_or rows n row) row ge found.1 there (ap (slice_get rows) found.2 ∙ here) in
                let equal : family_index row ≡ asked = cmp_equal (family_index row) asked (eq_from (slice_cmp nat_cmp (family_index row) asked) (ap is_eq (sym (at_row m row here)) ∙ same)) in
                let not_behind : is_lt (slice_cmp nat_cmp asked (family_index (get_or rows n row))) ≡ false = (λ k. is_lt (slice_cmp nat_cmp (sym equal k) (family_index (get_or rows n row)))) ∙ far in
                let level = neither (slice_cmp nat_cmp) nat_list_cmp_total (family_index (get_or rows n row)) asked (slice_cmp nat_cmp (family_index (get_or rows n row)) asked) refl
                (ap is_lt (sym (at_row n (get_or rows n row) there)) ∙ high) not_behind in
                (n, slice_get-get_or numbers first m inside, ap is_eq (at_row n (get_or rows n row) there ∙ level))
          ]

      has_from : (n : ℕ) (row : FamilyRow) → slice_get rows n ≡ Some row → is_eq (at n) ≡ has_index asked row
      has_from n row here = ap is_eq (at_row n row here) ∙ is_eq-slice_cmp (family_index row) asked

      -- it is the row of the index
      pub found_at : KeysDiffer same_family rows → (n : ℕ) → Some n ≡ slice_get numbers first → is_eq (at n) ≡ true → Some n ≡ family_at rows asked
      found_at differ n e same =
          let inside : first < length numbers = slice_get_within numbers first n (sym e) in
          let place : get_or numbers first n ≡ n = get_or_from_slice_get numbers first n n (sym e) in
          let within : n < length rows = subst (λ (m : ℕ). m < length rows) place (is.within first n inside) in
          only_at rows asked differ n within (λ d. sym (has_from n (get_or rows n d) (slice_get-get_or rows n d within)) ∙ same)

      -- no row has the index
      pub none_at : ((n : ℕ) → Some n ≡ slice_get numbers first → is_eq (at n) ≡ false) → None ≡ family_at rows asked
      none_at never =
          sym (position_none (has_index asked) rows (λ k d lt.
          let here = slice_get-get_or rows k d lt in
          elim (cases_Bool (has_index asked (get_or rows k d))) [
            | inl has ↦
                let first_one = first_is k (get_or rows k d) here (has_from k (get_or rows k d) here ∙ has) in
                absurd (both_ways (is_eq (at first_one.0)) (never first_one.0 (sym first_one.1)) first_one.2)
            | inr not ↦ not
          ]))
