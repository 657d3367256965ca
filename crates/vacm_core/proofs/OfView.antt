-- The rows of a view in the order of their indexes, and the last of them that has a name.
use Rattle.std.proofs.Common.{◌≡◌, ℕ, ◌+◌, ◌-◌, ◌<◌, ◌≤◌, ◌==◌, nat_lt, cond, Bool, true, false, List, [], ◌∷◌, ◌++◌, length, take, drop, get_or, Contains, All, bytes_eq, Option, Some, None, refl, sym, ap, subst, ◌∙◌, arith, inl, inr}
use Rattle.std.specs.Cmp.Lexicographic.{slice_cmp, same_text}
use Rattle.std.specs.FinMap.{nat_cmp-IsAntisymmetric}
use Rattle.std.specs.List.{slice_get}
use Rattle.std.specs.List.Sorted.{IsPartitionPoint}
use Rattle.std.specs.Ordering.{nat_cmp, ordering_then, is_lt}
use Rattle.std.specs.declared.cmp.Ordering.{Ordering}
use Rattle.std.specs.declared.cmp.Ordering.TheVariants.{Less, Equal, Greater}
use Rattle.std.proofs.lemmas.Bool.{cases_lt, both_ways, lt-ltb, le-ltb}
use Rattle.std.proofs.lemmas.Cmp.{nat_cmp_total, nat_list_cmp_total, tied_itself}
use Rattle.std.proofs.lemmas.List.{get_or-take, get_or-drop, get_or_default, length-take-le, length-drop}
use Rattle.std.proofs.lemmas.List.Sorted.{sorted_far}
use Rattle.std.proofs.lemmas.Option.{slice_get-get_or, slice_get_within}
use Rattle.vacm_core.specs.declared.tables.FamilyRow.{FamilyRow}
use Rattle.vacm_core.specs.Families.{agrees_from, matches, family_cmp, family_beats}
use Rattle.vacm_core.specs.FamilyIndex.{family_index, index_before}
use Rattle.vacm_core.specs.Keys.{key_cmp, key_or, key_before, index_key, IsIndex}
use Rattle.vacm_core.specs.OfView.{index_front, is_before, AreOfView, is_match, IsLastMatch}
use Rattle.vacm_core.specs.Trees.{IsFit, Covers, IsNoBetter}
use Rattle.vacm_core.proofs.Agrees.{agrees_found, and_true}
use Rattle.vacm_core.proofs.FamilyIndexes.{cmp_append, cmp_parts}
use Rattle.vacm_core.proofs.Indexes.{key_order}

-- ---- an index beside its front

not_lt_nothing : (xs : List ℕ) → is_lt (slice_cmp nat_cmp xs []) ≡ false
not_lt_nothing [] = refl
not_lt_nothing (x ∷ xs) = refl

lt_then : (o p : Ordering) → is_lt p ≡ false → is_lt (ordering_then o p) ≡ is_lt o
lt_then Less p e = refl
lt_then Equal p e = e
lt_then Greater p e = refl

lt_then_both : (o p q : Ordering) → is_lt q ≡ false → is_lt (ordering_then o (ordering_then p q)) ≡ is_lt (ordering_then o p)
lt_then_both Less p q e = refl
lt_then_both Equal p q e = lt_then p q e
lt_then_both Greater p q e = refl

lt_as : (b c : Bool) → is_lt (cond b Less (cond c Equal Greater)) ≡ b
lt_as true c = refl
lt_as false true = refl
lt_as false false = refl

nat_cmp-ltb : (a b : ℕ) → is_lt (nat_cmp a b) ≡ nat_lt a b
nat_cmp-ltb a b = lt_as (nat_lt a b) (a == b)

not_below_nothing : (n : ℕ) → is_lt (nat_cmp n 0) ≡ false
not_below_nothing n = nat_cmp-ltb n 0 ∙ le-ltb n 0 (omega arith)

-- numbers that differ decide, whatever follows
lt_by : (b : Bool) (o p : Ordering) → is_lt (ordering_then (ordering_then (cond b Less Greater) o) p) ≡ b
lt_by true o p = refl
lt_by false o p = refl

lt_differing : (a b : ℕ) (o p : Ordering) → (a == b) ≡ false → is_lt (ordering_then (ordering_then (nat_cmp a b) o) p) ≡ nat_lt a b
lt_differing a b o p e =
    ap (λ (c : Bool). is_lt (ordering_then (ordering_then (cond (nat_lt a b) Less (cond c Equal Greater)) o) p)) e
    ∙ lt_by (nat_lt a b) o p

module _ (row : FamilyRow) (view : List ℕ) where
  abbrev beside : Ordering
  beside = ordering_then (nat_cmp (length row.view) (length view)) (slice_cmp nat_cmp row.view view)

  abbrev by_front : ℕ → Ordering
  by_front long = slice_cmp nat_cmp (family_index row) (index_front view long)

  front_by_long : (long : ℕ) (o : Ordering) → nat_cmp (length row.view) (length view) ≡ o
      → is_lt (ordering_then (ordering_then o (slice_cmp nat_cmp row.view view)) (nat_cmp (length row.subtree) long))
      ≡ is_lt (ordering_then o (slice_cmp nat_cmp (row.view ++ length row.subtree ∷ row.subtree) (view ++ long ∷ [])))
  front_by_long long Less e = refl
  front_by_long long Equal e =
      let same : length row.view ≡ length view = nat_cmp-IsAntisymmetric (length row.view) (length view) e in
      sym
      (ap is_lt (cmp_append row.view view (length row.subtree ∷ row.subtree) (long ∷ []) same)
      ∙ lt_then_both (slice_cmp nat_cmp row.view view) (nat_cmp (length row.subtree) long) (slice_cmp nat_cmp row.subtree []) (not_lt_nothing row.subtree))
  front_by_long long Greater e = refl

  -- by the view, and then by the length of the subtree
  pub cmp_front : (long : ℕ) → is_lt (ordering_then beside (nat_cmp (length row.subtree) long)) ≡ is_lt (by_front long)
  cmp_front long = front_by_long long (nat_cmp (length row.view) (length view)) refl

  -- a view whose name has another length
  pub front_by_lengths : (long : ℕ) → (length row.view == length view) ≡ false → nat_lt (length row.view) (length view) ≡ is_lt (by_front long)
  front_by_lengths long e = sym (lt_differing (length row.view) (length view) (slice_cmp nat_cmp row.view view) (nat_cmp (length row.subtree) long) e) ∙ cmp_front long

  -- and one whose name has the same length
  pub front_by_names : (long : ℕ) → length row.view ≡ length view
      → is_lt (ordering_then (slice_cmp nat_cmp row.view view) (nat_cmp (length row.subtree) long)) ≡ is_lt (by_front long)
  front_by_names long e =
      sym (ap (λ (o : Ordering). is_lt (ordering_then (ordering_then o (slice_cmp nat_cmp row.view view)) (nat_cmp (length row.subtree) long)))
      (subst (λ (n : ℕ). nat_cmp (length row.view) n ≡ Equal) e (tied_itself nat_cmp_total (length row.view))))
      ∙ cmp_front long

  less_still : (o : Ordering) (long : ℕ) → is_lt (ordering_then o (nat_cmp (length row.subtree) 0)) ≡ true → is_lt (ordering_then o (nat_cmp (length row.subtree) long)) ≡ true
  less_still Less long e = refl
  less_still Equal long e = absurd (both_ways (is_lt (nat_cmp (length row.subtree) 0)) (not_below_nothing (length row.subtree)) e)
  less_still Greater long e = absurd cc

  -- what is before all rows of a view is before the longer ones
  pub before_longer : (long : ℕ) → is_lt (by_front 0) ≡ true → is_lt (by_front long) ≡ true
  before_longer long e = sym (cmp_front long) ∙ less_still beside long (cmp_front 0 ∙ e)

  tied_views : row.view ≡ view → beside ≡ Equal
  tied_views e =
      subst (λ (v : List ℕ). ordering_then (nat_cmp (length row.view) (length v)) (slice_cmp nat_cmp row.view v) ≡ Equal) e
      (λ i. ordering_then (tied_itself nat_cmp_total (length row.view) i) (tied_itself nat_list_cmp_total row.view i))

  -- a row of the view is where the length of its subtree says
  pub front_of : (long : ℕ) → row.view ≡ view → is_lt (by_front long) ≡ is_lt (nat_cmp (length row.subtree) long)
  front_of long e = sym (cmp_front long) ∙ ap (λ (o : Ordering). is_lt (ordering_then o (nat_cmp (length row.subtree) long))) (tied_views e)

-- rows of one view are in the order of their subtrees
same_view_cmp : (a b : FamilyRow) → a.view ≡ b.view → slice_cmp nat_cmp (family_index a) (family_index b) ≡ family_cmp a b
same_view_cmp a b e =
    sym (cmp_parts a b)
    ∙ ap (λ (o : Ordering). ordering_then (ordering_then o (nat_cmp (length a.subtree) (length b.subtree))) (slice_cmp nat_cmp a.subtree b.subtree)) (tied_views a b.view e)

-- ---- the part of an index that is of a view

no_row : FamilyRow
no_row = record { view = []; subtree = []; mask = []; included = false }

module _ (rows : List FamilyRow) (view : List ℕ) (most : ℕ) (index : List ℕ) (is : IsIndex index_key rows index) where
  abbrev before : ℕ → ℕ → Bool
  before long n = is_before rows view long n

  before_row : (long n : ℕ) (row : FamilyRow) → slice_get rows n ≡ Some row → before long n ≡ is_lt (slice_cmp nat_cmp (family_index row) (index_front view long))
  before_row long n row here = ap (λ (o : Option FamilyRow). is_lt (key_cmp (key_or index_key o) (0, index_front view long))) here

  module _ (first end : ℕ) (in_first : first ≤ length index) (in_end : end ≤ length index)
      (lower : IsPartitionPoint (λ n. before 0 n ≡ true) (λ n. before 0 n ≡ false) index first)
      (upper : IsPartitionPoint (λ n. before (most + 1) n ≡ true) (λ n. before (most + 1) n ≡ false) index end) where
    pub in_turn : first ≤ end
    in_turn =
        elim (cases_lt end first) [
          | inr le ↦ le
          | inl lt ↦
              let n = get_or index end 0 in
              let inside : end < length index = omega (arith, lt, in_first) in
              let row = get_or rows n no_row in
              let here = slice_get-get_or rows n no_row (is.within end 0 inside) in
              let low : is_lt (slice_cmp nat_cmp (family_index row) (index_front view 0)) ≡ true = sym (before_row 0 n row here) ∙ lower.0 end 0 (omega arith) lt in
              absurd (both_ways (before (most + 1) n) (upper.1 end 0 (omega arith) inside) (before_row (most + 1) n row here ∙ before_longer row view (most + 1) low))
        ]

    abbrev part : List ℕ
    part = take (end - first) (drop first index)

    part_length : length part ≡ end - first
    part_length = length-take-le (end - first) (drop first index) (omega (arith, length-drop first index))

    part_at : (k d : ℕ) → k < end - first → get_or part k d ≡ get_or index (first + k) d
    part_at k d lt = get_or-take (end - first) (drop first index) k d lt ∙ get_or-drop first index k d

    part_within : All (λ n. n < length rows) part
    part_within k d lt =
        subst (λ (n : ℕ). n < length rows) (sym (part_at k d (omega (arith, part_length)))) (is.within (first + k) d (omega (arith, part_length)))

    part_all : (n : ℕ) (row : FamilyRow) → slice_get rows n ≡ Some row → row.view ≡ view → length row.subtree ≤ most → Contains part n
    part_all n row here same short =
        let found = is.all n (slice_get_within rows n row here) in
        let j = found.0 in
        let inside : j < length index = found.1 in
        let place : get_or index j n ≡ n = found.2 in
        let low : before 0 (get_or index j n) ≡ false = ap (before 0) place ∙ before_row 0 n row here ∙ front_of row view 0 same ∙ not_below_nothing (length row.subtree) in
        let high : before (most + 1) (get_or index j n) ≡ true =
        ap (before (most + 1)) place ∙ before_row (most + 1) n row here ∙ front_of row view (most + 1) same ∙ nat_cmp-ltb (length row.subtree) (most + 1) ∙ lt-ltb (length row.subtree) (most + 1) (omega arith) in
        elim (cases_lt j first) [
          | inl lt ↦ absurd (both_ways (before 0 (get_or index j n)) low (lower.0 j n (omega arith) lt))
          | inr ge ↦ elim (cases_lt j end) [
            | inr past ↦ absurd (both_ways (before (most + 1) (get_or index j n)) (upper.1 j n past inside) high)
            | inl lt ↦
                let k = j - first in
                let back : first + k ≡ j = omega arith in
                (k, omega (arith, part_length), part_at k n (omega arith) ∙ ap (λ (m : ℕ). get_or index m n) back ∙ place)
          ]
        ]

    part_rising : (i j d : ℕ) (a b : FamilyRow) → i ≤ j → j < length part
        → slice_get rows (get_or part i d) ≡ Some a → slice_get rows (get_or part j d) ≡ Some b → index_before b a ≡ false
    part_rising i j d a b le lt here there =
        let one = ap (slice_get rows) (sym (part_at i d (omega (arith, part_length)))) ∙ here in
        let other = ap (slice_get rows) (sym (part_at j d (omega (arith, part_length)))) ∙ there in
        let far = sorted_far (key_before index_key rows) (key_order index_key rows) index is.sorted (first + i) (first + j) d (omega arith) (omega (arith, part_length)) in
        (λ k. is_lt (key_cmp (key_or index_key (sym other k)) (key_or index_key (sym one k)))) ∙ far

    pub part_of_view : AreOfView rows view most part
    part_of_view = record { within = part_within; all = part_all; rising = part_rising }

  -- all rows in the order of their indexes
  pub all_of_view : AreOfView rows view most index
  all_of_view = record {
    within = is.within;
    all = λ n row here same short. is.all n (slice_get_within rows n row here);
    rising = λ i j d a b le lt here there.
        let far = sorted_far (key_before index_key rows) (key_order index_key rows) index is.sorted i j d le lt in
        (λ k. is_lt (key_cmp (key_or index_key (sym there k)) (key_or index_key (sym here k)))) ∙ far;
  }

-- ---- the last of them that has a name

module _ (rows : List FamilyRow) (view name numbers : List ℕ) (are : AreOfView rows view (length name) numbers) where
  pub last_fit : (r : Option ℕ) → IsLastMatch rows view name numbers r → IsFit (matches view name) rows r
  last_fit None last = tt
  last_fit (Some n) last =
      let within : n < length rows = subst (λ (m : ℕ). m < length rows) last.here (are.within last.place n last.inside) in
      (within, λ d. ap (is_match view name) (sym (slice_get-get_or rows n d within)) ∙ last.passes)

  same_view : (a b : FamilyRow) → matches view name a ≡ true → matches view name b ≡ true → a.view ≡ b.view
  same_view a b x y =
      same_text a.view view (sym (and_true (bytes_eq a.view view) (agrees_from 0 a.mask a.subtree name) x).0)
      ∙ sym (same_text b.view view (sym (and_true (bytes_eq b.view view) (agrees_from 0 b.mask b.subtree name) y).0))

  no_better : (r : Option ℕ) → IsLastMatch rows view name numbers r → (k m : ℕ) (row : FamilyRow) → k < length numbers → get_or numbers k m ≡ m
      → slice_get rows m ≡ Some row → matches view name row ≡ true → IsNoBetter family_beats rows row r
  no_better None last k m row lt at here pass =
      absurd (both_ways (is_match view name (slice_get rows (get_or numbers k m))) (last k m (omega arith) lt) (ap (λ (x : ℕ). is_match view name (slice_get rows x)) at ∙ ap (is_match view name) here ∙ pass))
  no_better (Some n) last k m row lt at here pass =
      let within : n < length rows = subst (λ (x : ℕ). x < length rows) last.here (are.within last.place n last.inside) in
      let best = get_or rows n row in
      let there = slice_get-get_or rows n row within in
      elim (cases_lt last.place k) [
        | inl behind ↦ absurd (both_ways (is_match view name (slice_get rows (get_or numbers k m))) (last.behind k m (omega arith) lt) (ap (λ (x : ℕ). is_match view name (slice_get rows x)) at ∙ ap (is_match view name) here ∙ pass))
        | inr le ↦
            let same = same_view best row (ap (is_match view name) (sym there) ∙ last.passes) pass in
            ap is_lt (sym (same_view_cmp best row same))
            ∙ are.rising k last.place m row best le last.inside (ap (slice_get rows) at ∙ here)
            (ap (slice_get rows) (get_or_default numbers last.place m n last.inside ∙ last.here) ∙ there)
      ]

  pub last_covers : (r : Option ℕ) → IsLastMatch rows view name numbers r → (m : ℕ) → Covers (matches view name) family_beats rows r m
  last_covers r last m row here pass =
      let parts = and_true (bytes_eq row.view view) (agrees_from 0 row.mask row.subtree name) pass in
      let short = (agrees_found 0 row.mask row.subtree name parts.1).0 in
      let found = are.all m row here (same_text row.view view (sym parts.0)) short in
      no_better r last found.0 m row found.1 found.2 here pass
