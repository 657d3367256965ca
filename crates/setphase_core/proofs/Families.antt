-- The rows of the table of families by rising index: none is lost, no two are of one index where no
-- two have one key, and what is found among them is what is found among the rows as they are kept.
use Rattle.std.proofs.Common.{◌≡◌, ◌≢◌, ℕ, zero, suc, ◌+◌, ◌<◌, ◌≤◌, Bool, true, false, cond, not, ◌&&◌, nat_lt, List, [], ◌∷◌, ◌++◌, length, map, take, get_or, find, position, refl, sym, ap, subst, ◌∙◌, arith, inl, inr, Option, Some, None, option_map, All}
use Rattle.std.specs.Prelude.{slice_get, unwrap_or, nat_le}
use Rattle.std.specs.Cmp.{IsStrictWeakOrder}
use Rattle.std.specs.Cmp.Lexicographic.{slice_cmp, same_text}
use Rattle.std.specs.List.{AllByRecursion, list_any, position_or_len}
use Rattle.std.specs.Ordering.{nat_cmp, is_lt, is_gt, ordering_reverse}
use Rattle.std.specs.declared.cmp.Ordering.{Ordering}
use Rattle.std.specs.declared.cmp.Ordering.TheVariants.{Less, Equal, Greater}
use Rattle.std.proofs.lemmas.Bool.{cases_Bool, both_ways, and_parts, and_from, or_parts}
use Rattle.std.proofs.lemmas.Bool.Decides.{nat_tests}
use Rattle.std.proofs.lemmas.Cmp.{nat_list_cmp_total}
use Rattle.std.proofs.lemmas.List.{get_or-take, get_or-map, length-map, length-take}
use Rattle.std.proofs.lemmas.List.Elements.{recursion_from_All}
use Rattle.std.proofs.lemmas.List.Folds.{find_at, list_any_at}
use Rattle.std.proofs.lemmas.List.Sorted.{ranks_by}
use Rattle.std.proofs.lemmas.Option.{slice_get_past, slice_get-map, slice_get-get_or}
use Rattle.oid_core.specs.Order.{name_lt, name_eq}
use Rattle.oid_core.proofs.OrderLaws.{name_lt-cmp, name_lt-trans, cmp_equal, any_two, before_lt, eq_test, equal_cmp}
use Rattle.vacm_core.specs.declared.limits.TheConstants.{MAX_FAMILY, MAX_MASK, MAX_NAME}
use Rattle.vacm_core.specs.declared.fault.Wrong.TheVariants.{Length, Field, Duplicate}
use Rattle.vacm_core.specs.declared.tables.FamilyRow.{FamilyRow}
use Rattle.vacm_core.specs.declared.written.WrittenFamily.{WrittenFamily}
use Rattle.vacm_core.specs.Best.{IsUnbeatenAt}
use Rattle.vacm_core.specs.FamilyIndex.{family_index, index_before, is_behind, next_family, has_index, family_at}
use Rattle.vacm_core.specs.Rows.{same_family, family_row, family_rules}
use Rattle.vacm_core.specs.Texts.{has_length}
use Rattle.vacm_core.specs.Rules.{AreRight, wrong_of, has_earlier, wrong_at}
use Rattle.vacm_core.specs.Tables.{KeysDiffer, written_family}
use Rattle.vacm_core.proofs.Decided.{none_where_none_passes, some_is_unbeaten}
use Rattle.vacm_core.proofs.FamilyWays.{split_same}
use Rattle.vacm_core.proofs.Ties.{neither, bytes_same}
use Rattle.message_core.specs.declared.value.Value.{Value}
use Rattle.setphase_core.specs.Values.{IndexedValue, with_row, in_index_order, by_family, value_at, index_after}

abbrev pub instance_of : (FamilyRow → Value) → FamilyRow → IndexedValue
instance_of f r = record { index = family_index r; value = f r }

index_order : IsStrictWeakOrder index_before
index_order = ranks_by nat_list_cmp_total family_index

-- ---- what holds of all rows, in either order

all_with : (P : FamilyRow → Type 0) (r : FamilyRow) (rows : List FamilyRow) → P r → AllByRecursion P rows → AllByRecursion P (with_row r rows)
all_with P r [] h k = (h, tt)
all_with P r (x ∷ rows) h k = pick (all_with P r rows h k.1) (index_before x r)
  where
    pick : AllByRecursion P (with_row r rows) → (b : Bool) → AllByRecursion P (cond b (x ∷ with_row r rows) (r ∷ x ∷ rows))
    pick more true = (k.0, more)
    pick more false = (h, k)

pub all_in_order : (P : FamilyRow → Type 0) (rows : List FamilyRow) → AllByRecursion P rows → AllByRecursion P (in_index_order rows)
all_in_order P [] h = tt
all_in_order P (r ∷ rows) h = all_with P r (in_index_order rows) h.0 (all_in_order P rows h.1)

-- ---- what a test finds first

module _ (p : FamilyRow → Bool) where
  -- of indexes that differ at most one passes
  find_with : ((a b : FamilyRow) → index_before a b ≡ true → p a ≡ true → p b ≡ false) → (r : FamilyRow) (rows : List FamilyRow) →
      find p (with_row r rows) ≡ cond (p r) (Some r) (find p rows)
  find_with one r [] = refl
  find_with one r (x ∷ rows) = pick (find_with one r rows) (index_before x r) refl
    where
      pick : find p (with_row r rows) ≡ cond (p r) (Some r) (find p rows) → (b : Bool) → index_before x r ≡ b →
          find p (cond b (x ∷ with_row r rows) (r ∷ x ∷ rows)) ≡ cond (p r) (Some r) (cond (p x) (Some x) (find p rows))
      pick more false e = refl
      pick more true e = elim (cases_Bool (p x)) [
        | inl px ↦ let other : p r ≡ false = one x r e px in rw (px, other) refl
        | inr px ↦ rw px more
      ]

  find_in_order : ((a b : FamilyRow) → index_before a b ≡ true → p a ≡ true → p b ≡ false) → (rows : List FamilyRow) → find p (in_index_order rows) ≡ find p rows
  find_in_order one [] = refl
  find_in_order one (r ∷ rows) = find_with one r (in_index_order rows) ∙ ap (cond (p r) (Some r)) (find_in_order one rows)

  -- the place of what is found
  find_by_place : (rows : List FamilyRow) (n : ℕ) (row : FamilyRow) → position p rows ≡ Some n → slice_get rows n ≡ Some row → find p rows ≡ Some row
  find_by_place rows n row e at = find_at p rows ∙ pick (nat_lt (position_or_len p rows) (length rows)) (position_or_len p rows) e
    where
      pick : (b : Bool) (m : ℕ) → cond b (Some m) None ≡ Some n → slice_get rows m ≡ Some row
      pick true m f = let same : m ≡ n = cc in ap (slice_get rows) same ∙ at
      pick false m f = absurd (cc)

  find_no_place : (rows : List FamilyRow) → position p rows ≡ None → find p rows ≡ None
  find_no_place rows e = find_at p rows ∙ pick (nat_lt (position_or_len p rows) (length rows)) refl
    where
      pick : (b : Bool) → nat_lt (position_or_len p rows) (length rows) ≡ b → slice_get rows (position_or_len p rows) ≡ None
      pick true f = let no : Some (position_or_len p rows) ≡ None = ap (λ (b : Bool). cond b (Some (position_or_len p rows)) None) (sym f) ∙ e in absurd (cc)
      pick false f = slice_get_past rows (position_or_len p rows) (grind (arith, nat_tests, f))

-- what a test of instances finds, by a test of the rows
find_instance : (f : FamilyRow → Value) (q : IndexedValue → Bool) (p : FamilyRow → Bool) → ((r : FamilyRow) → q (instance_of f r) ≡ p r) → (rows : List FamilyRow) →
    find q (map (instance_of f) rows) ≡ option_map (instance_of f) (find p rows)
find_instance f q p same [] = refl
find_instance f q p same (r ∷ rows) = ap (λ (b : Bool). cond b (Some (instance_of f r)) (find q (map (instance_of f) rows))) (same r) ∙ pick (find_instance f q p same rows) (p r)
  where
    pick : find q (map (instance_of f) rows) ≡ option_map (instance_of f) (find p rows) → (b : Bool) →
        cond b (Some (instance_of f r)) (find q (map (instance_of f) rows)) ≡ option_map (instance_of f) (cond b (Some r) (find p rows))
    pick more true = refl
    pick more false = more

-- ---- what has an index

lt_itself : (a : List ℕ) → is_lt (slice_cmp nat_cmp a a) ≡ false
lt_itself a = ap is_lt (equal_cmp a a refl)

has_same : (at : List ℕ) (r : FamilyRow) → has_index at r ≡ true → family_index r ≡ at
has_same at r e = same_text (family_index r) at (sym e)

one_has : (at : List ℕ) (a b : FamilyRow) → index_before a b ≡ true → has_index at a ≡ true → has_index at b ≡ false
one_has at a b e h = elim (cases_Bool (has_index at b)) [
  | inl k ↦
      let same : family_index a ≡ family_index b = has_same at a h ∙ sym (has_same at b k) in
      let no : index_before a b ≡ false = ap (λ (i : List ℕ). is_lt (slice_cmp nat_cmp i (family_index b))) same ∙ lt_itself (family_index b) in
      absurd (both_ways (index_before a b) no e)
  | inr k ↦ k
]

value_found : (rows : List FamilyRow) (at : List ℕ) (f : FamilyRow → Value) → value_at (by_family rows f) at ≡ option_map f (find (has_index at) rows)
value_found rows at f =
    ap (option_map (λ (s : IndexedValue). s.value)) (find_instance f (λ s. name_eq s.index at) (has_index at) (λ r. sym (eq_test (family_index r) at)) (in_index_order rows)
    ∙ ap (option_map (instance_of f)) (find_in_order (has_index at) (one_has at) rows))
    ∙ value_of (find (has_index at) rows)
  where
    value_of : (found : Option FamilyRow) → option_map (λ (s : IndexedValue). s.value) (option_map (instance_of f) found) ≡ option_map f found
    value_of None = refl
    value_of (Some r) = refl

pub value_there : (rows : List FamilyRow) (at : List ℕ) (f : FamilyRow → Value) (n : ℕ) (row : FamilyRow) → family_at rows at ≡ Some n → slice_get rows n ≡ Some row →
    value_at (by_family rows f) at ≡ Some (f row)
value_there rows at f n row e here = value_found rows at f ∙ ap (option_map f) (find_by_place (has_index at) rows n row e here)

pub value_missing : (rows : List FamilyRow) (at : List ℕ) (f : FamilyRow → Value) → family_at rows at ≡ None → value_at (by_family rows f) at ≡ None
value_missing rows at f e = value_found rows at f ∙ ap (option_map f) (find_no_place (has_index at) rows e)

-- ---- what comes first behind some numbers

-- the row in front, where none of the others that pass is before it
abbrev better : FamilyRow → Option FamilyRow → Option FamilyRow
better r None = Some r
better r (Some x) = cond (index_before x r) (Some x) (Some r)

-- of the rows that pass the first that none is before
abbrev least : (FamilyRow → Bool) → List FamilyRow → Option FamilyRow
least p [] = None
least p (r ∷ rows) = cond (p r) (better r (least p rows)) (least p rows)

module _ (p : FamilyRow → Bool) (up : (a b : FamilyRow) → index_before b a ≡ false → p a ≡ true → p b ≡ true) where
  least_with : (r : FamilyRow) (rows : List FamilyRow) → find p (with_row r rows) ≡ cond (p r) (better r (find p rows)) (find p rows)
  least_with r [] = refl
  least_with r (x ∷ rows) = pick (least_with r rows) (index_before x r) refl
    where
      pick : find p (with_row r rows) ≡ cond (p r) (better r (find p rows)) (find p rows) → (b : Bool) → index_before x r ≡ b →
          find p (cond b (x ∷ with_row r rows) (r ∷ x ∷ rows)) ≡ cond (p r) (better r (cond (p x) (Some x) (find p rows))) (cond (p x) (Some x) (find p rows))
      pick more false e = elim (cases_Bool (p r)) [
        | inl pr ↦ let px : p x ≡ true = up r x e pr in rw (pr, px, e) refl
        | inr pr ↦ rw pr refl
      ]
      pick more true e = elim (cases_Bool (p x)) [
        | inl px ↦ let pr : p r ≡ true = up x r (index_order.one_way x r e) px in rw (px, pr, e) refl
        | inr px ↦ rw px more
      ]

  least_in_order : (rows : List FamilyRow) → find p (in_index_order rows) ≡ least p rows
  least_in_order [] = refl
  least_in_order (r ∷ rows) = least_with r (in_index_order rows) ∙ ap (λ (o : Option FamilyRow). cond (p r) (better r o) o) (least_in_order rows)

all_weaker : (P Q : FamilyRow → Type 0) (rows : List FamilyRow) → ((r : FamilyRow) → P r → Q r) → AllByRecursion P rows → AllByRecursion Q rows
all_weaker P Q [] f h = tt
all_weaker P Q (r ∷ rows) f h = (f r h.0, all_weaker P Q rows f h.1)

all_there : (P : FamilyRow → Type 0) (rows : List FamilyRow) (n : ℕ) (row : FamilyRow) → slice_get rows n ≡ Some row → AllByRecursion P rows → P row
all_there P [] n row e h = absurd (cc)
all_there P (r ∷ rows) zero row e h = let same : r ≡ row = cc in subst P same h.0
all_there P (r ∷ rows) (suc n) row e h = all_there P rows n row e h.1

-- a row passes, is one of these, and none of these that passes is before it
record IsLeast (p : FamilyRow → Bool) (rows : List FamilyRow) (y : FamilyRow) : Type 0 where
  passes : p y ≡ true
  among : (q : FamilyRow → Bool) → list_any q rows ≡ false → q y ≡ false
  first : AllByRecursion (λ x. p x ≡ true → index_before x y ≡ false) rows

abbrev DecidesLeast : (FamilyRow → Bool) → List FamilyRow → Option FamilyRow → Type 0
DecidesLeast p rows None = AllByRecursion (λ x. p x ≡ false) rows
DecidesLeast p rows (Some y) = IsLeast p rows y

not_before_itself : (r : FamilyRow) → index_before r r ≡ false
not_before_itself r = lt_itself (family_index r)

-- the row in front is the least
head_least : (p : FamilyRow → Bool) (r : FamilyRow) (rows : List FamilyRow) → p r ≡ true → AllByRecursion (λ x. p x ≡ true → index_before x r ≡ false) rows → IsLeast p (r ∷ rows) r
head_least p r rows e h = record {
  passes = e;
  among = λ q none. (or_parts (q r) (list_any q rows) none).0;
  first = ((λ f. not_before_itself r), h);
}

-- the least of the others is the least
rest_least : (p : FamilyRow → Bool) (r : FamilyRow) (rows : List FamilyRow) (y : FamilyRow) → (p r ≡ true → index_before r y ≡ false) → IsLeast p rows y → IsLeast p (r ∷ rows) y
rest_least p r rows y e h = record {
  passes = h.passes;
  among = λ q none. h.among q (or_parts (q r) (list_any q rows) none).1;
  first = (e, h.first);
}

choose_least : (p : FamilyRow → Bool) (r : FamilyRow) (rows : List FamilyRow) (y : FamilyRow) (b : Bool) → index_before y r ≡ b → p r ≡ true → IsLeast p rows y → DecidesLeast p (r ∷ rows) (cond b (Some y) (Some r))
choose_least p r rows y true e pr h = rest_least p r rows y (λ f. index_order.one_way y r e) h
choose_least p r rows y false e pr h =
    head_least p r rows pr (all_weaker (λ x. p x ≡ true → index_before x y ≡ false) (λ x. p x ≡ true → index_before x r ≡ false) rows (λ x k f. index_order.chain x y r (k f) e) h.first)

one_more_least : (p : FamilyRow → Bool) (r : FamilyRow) (rows : List FamilyRow) (best : Option FamilyRow) (b : Bool) → p r ≡ b → DecidesLeast p rows best → DecidesLeast p (r ∷ rows) (cond b (better r best) best)
one_more_least p r rows None false e h = (e, h)
one_more_least p r rows (Some y) false e h = rest_least p r rows y (λ f. absurd (both_ways (p r) e f)) h
one_more_least p r rows None true e h =
    head_least p r rows e (all_weaker (λ x. p x ≡ false) (λ x. p x ≡ true → index_before x r ≡ false) rows (λ x k f. absurd (both_ways (p x) k f)) h)
one_more_least p r rows (Some y) true e h = choose_least p r rows y (index_before y r) refl e h

least_decides : (p : FamilyRow → Bool) (rows : List FamilyRow) → DecidesLeast p rows (least p rows)
least_decides p [] = tt
least_decides p (r ∷ rows) = one_more_least p r rows (least p rows) (p r) refl (least_decides p rows)

-- its index is that of any row of the list that none which passes is before
least_index : (p : FamilyRow → Bool) (rows : List FamilyRow) (n : ℕ) (best : Option FamilyRow) → IsUnbeatenAt p index_before rows n → DecidesLeast p rows best →
    option_map family_index best ≡ option_map family_index (slice_get rows n)
least_index p rows n None u h =
    let parts = and_parts (p u.row) (not (list_any (λ other. p other && index_before other u.row) rows)) u.unbeaten in
    absurd (both_ways (p u.row) (all_there (λ x. p x ≡ false) rows n u.row u.here h) parts.0)
least_index p rows n (Some y) u h =
    let parts = and_parts (p u.row) (not (list_any (λ other. p other && index_before other u.row) rows)) u.unbeaten in
    let none = h.among (λ other. p other && index_before other u.row) (unset (list_any (λ other. p other && index_before other u.row) rows) parts.1) in
    let not_y : index_before y u.row ≡ false = second (p y) (index_before y u.row) h.passes none in
    let not_u : index_before u.row y ≡ false = all_there (λ x. p x ≡ true → index_before x y ≡ false) rows n u.row u.here h.first parts.0 in
    let same : family_index y ≡ family_index u.row = cmp_equal (family_index y) (family_index u.row) (neither (slice_cmp nat_cmp) nat_list_cmp_total (family_index y) (family_index u.row) (slice_cmp nat_cmp (family_index y) (family_index u.row)) refl not_y not_u) in
    ap (λ (i : List ℕ). Some i) same ∙ ap (option_map family_index) (sym u.here)
  where
    unset : (b : Bool) → not b ≡ true → b ≡ false
    unset true e = absurd (cc)
    unset false e = refl

    second : (a b : Bool) → a ≡ true → (a && b) ≡ false → b ≡ false
    second true b e f = f
    second false b e f = absurd (cc)

least_none : (p : FamilyRow → Bool) (rows : List FamilyRow) (best : Option FamilyRow) → list_any p rows ≡ false → DecidesLeast p rows best → best ≡ None
least_none p rows None e h = refl
least_none p rows (Some y) e h = absurd (both_ways (p y) (h.among p e) h.passes)

-- ---- rows behind some numbers

behind_is : (numbers : List ℕ) (r : FamilyRow) → name_lt numbers (family_index r) ≡ is_behind numbers r
behind_is numbers r =
    sym (name_lt-cmp numbers (family_index r) (slice_cmp nat_cmp numbers (family_index r)) refl)
    ∙ ap is_lt (nat_list_cmp_total.antisymm numbers (family_index r))
    ∙ turned (slice_cmp nat_cmp (family_index r) numbers)
  where
    turned : (o : Ordering) → is_lt (ordering_reverse o) ≡ is_gt o
    turned Less = refl
    turned Equal = refl
    turned Greater = refl

-- what is no nearer is behind them too
behind_up : (numbers : List ℕ) (a b : FamilyRow) → index_before b a ≡ false → is_behind numbers a ≡ true → is_behind numbers b ≡ true
behind_up numbers a b e h = elim (cases_Bool (is_behind numbers b)) [
  | inl k ↦ k
  | inr k ↦
      let order = ranks_by nat_list_cmp_total (λ (i : List ℕ). i) in
      let before : (r : FamilyRow) → is_lt (slice_cmp nat_cmp numbers (family_index r)) ≡ is_behind numbers r = λ r. name_lt-cmp numbers (family_index r) (slice_cmp nat_cmp numbers (family_index r)) refl ∙ behind_is numbers r in
      let no = order.chain numbers (family_index b) (family_index a) (before b ∙ k) e in
      absurd (both_ways (is_behind numbers a) (sym (before a) ∙ no) h)
]

index_of_found : (f : FamilyRow → Value) (found : Option FamilyRow) → option_map (λ (s : IndexedValue). s.index) (option_map (instance_of f) found) ≡ option_map family_index found
index_of_found f None = refl
index_of_found f (Some r) = refl

first_of : (rows : List FamilyRow) (f : FamilyRow → Value) → slice_get (map (instance_of f) rows) 0 ≡ find (λ s. name_lt [] s.index) (map (instance_of f) rows)
first_of [] f = refl
first_of (r ∷ rows) f = refl

-- the first index behind an index, or of all, by the rows behind it
after_found : (rows : List FamilyRow) (f : FamilyRow → Value) (after : Option (List ℕ)) → index_after (by_family rows f) after ≡ option_map family_index (least (is_behind (unwrap_or after [])) rows)
after_found rows f after =
    begin after
    ∙ ap (option_map (λ (s : IndexedValue). s.index)) (find_instance f (λ s. name_lt numbers s.index) (is_behind numbers) (behind_is numbers) (in_index_order rows) ∙ ap (option_map (instance_of f)) (least_in_order (is_behind numbers) (behind_up numbers) rows))
    ∙ index_of_found f (least (is_behind numbers) rows)
  where
    numbers : List ℕ
    numbers = unwrap_or after []

    begin : (after : Option (List ℕ)) → index_after (by_family rows f) after ≡ option_map (λ (s : IndexedValue). s.index) (find (λ s. name_lt (unwrap_or after []) s.index) (map (instance_of f) (in_index_order rows)))
    begin None = ap (option_map (λ (s : IndexedValue). s.index)) (first_of (in_index_order rows) f)
    begin (Some a) = refl

pub after_there : (rows : List FamilyRow) (f : FamilyRow → Value) (after : Option (List ℕ)) (n : ℕ) (row : FamilyRow) → next_family rows (unwrap_or after []) ≡ Some n → slice_get rows n ≡ Some row →
    index_after (by_family rows f) after ≡ Some (family_index row)
after_there rows f after n row e here =
    let p = is_behind (unwrap_or after []) in
    after_found rows f after ∙ least_index p rows n (least p rows) (some_is_unbeaten index_order p rows n e) (least_decides p rows) ∙ ap (option_map family_index) here

pub after_none : (rows : List FamilyRow) (f : FamilyRow → Value) (after : Option (List ℕ)) → next_family rows (unwrap_or after []) ≡ None → index_after (by_family rows f) after ≡ None
after_none rows f after e =
    let p = is_behind (unwrap_or after []) in
    after_found rows f after ∙ ap (option_map family_index) (least_none p rows (least p rows) ((none_where_none_passes index_order p rows).0 e) (least_decides p rows))

-- ---- indexes rise

-- rows of one index have one key
one_index : (a b : FamilyRow) → family_index a ≡ family_index b → same_family a b ≡ true
one_index a b e =
    let long : length a.view ≡ length b.view = cc in
    let rest : a.view ++ length a.subtree ∷ a.subtree ≡ b.view ++ length b.subtree ∷ b.subtree = cc in
    let parts = split_same a.view b.view (length a.subtree ∷ a.subtree) (length b.subtree ∷ b.subtree) long rest in
    let behind : length a.subtree ∷ a.subtree ≡ length b.subtree ∷ b.subtree = parts.1 in
    let subtree : a.subtree ≡ b.subtree = cc in
    and_from _ _ (bytes_same a.view b.view parts.0) (bytes_same a.subtree b.subtree subtree)

abbrev pub AreAscending : List FamilyRow → Type 0
AreAscending [] = Unit {0}
AreAscending (r ∷ rows) = AllByRecursion (λ (s : FamilyRow). name_lt (family_index r) (family_index s) ≡ true) rows × AreAscending rows

before_name : (a b : FamilyRow) → index_before a b ≡ name_lt (family_index a) (family_index b)
before_name a b = name_lt-cmp (family_index a) (family_index b) (slice_cmp nat_cmp (family_index a) (family_index b)) refl

-- of two indexes that differ the first is before the second where the second is not before it
before_other : (r x : FamilyRow) → family_index r ≢ family_index x → index_before x r ≡ false → name_lt (family_index r) (family_index x) ≡ true
before_other r x differ e = elim (any_two (family_index r) (family_index x)) [
  | inl before ↦ before_lt (family_index r) (family_index x) before
  | inr (inl same) ↦ absurd (differ same)
  | inr (inr after) ↦ absurd (both_ways (index_before x r) e (before_name x r ∙ before_lt (family_index x) (family_index r) after))
]

ascending_with : (r : FamilyRow) (rows : List FamilyRow) → AllByRecursion (λ (x : FamilyRow). family_index r ≢ family_index x) rows → AreAscending rows → AreAscending (with_row r rows)
ascending_with r [] differ h = (tt, tt)
ascending_with r (x ∷ rows) differ h = pick (ascending_with r rows differ.1 h.1) (index_before x r) refl
  where
    pick : AreAscending (with_row r rows) → (b : Bool) → index_before x r ≡ b → AreAscending (cond b (x ∷ with_row r rows) (r ∷ x ∷ rows))
    pick more true e = (all_with (λ (s : FamilyRow). name_lt (family_index x) (family_index s) ≡ true) r rows (sym (before_name x r) ∙ e) h.0, more)
    pick more false e =
        let first = before_other r x differ.0 e in
        ((first, all_weaker (λ (s : FamilyRow). name_lt (family_index x) (family_index s) ≡ true) (λ (s : FamilyRow). name_lt (family_index r) (family_index s) ≡ true) rows (λ s k. name_lt-trans (family_index r) (family_index x) (family_index s) first k) h.0), h)

pub ascending : (rows : List FamilyRow) → KeysDiffer same_family rows → AreAscending (in_index_order rows)
ascending [] differ = tt
ascending (r ∷ rows) differ =
    ascending_with r (in_index_order rows) (all_in_order (λ (x : FamilyRow). family_index r ≢ family_index x) rows others) (ascending rows (λ i j d lt within. differ (suc i) (suc j) d (omega (arith, lt)) (omega (arith, within))))
  where
    others : AllByRecursion (λ (x : FamilyRow). family_index r ≢ family_index x) rows
    others = all_weaker (λ (x : FamilyRow). same_family r x ≡ false) (λ (x : FamilyRow). family_index r ≢ family_index x) rows (λ x no same. absurd (both_ways (same_family r x) no (one_index r x same)))
        (recursion_from_All (λ (x : FamilyRow). same_family r x ≡ false) rows (λ k d lt. differ 0 (suc k) d (omega arith) (omega (arith, lt))))

-- ---- rows of which nothing is wrong as they are written

right_parts : (l f e : Bool) → cond l (cond f (cond e (Some Duplicate) None) (Some Field)) (Some Length) ≡ None → (l ≡ true) × (e ≡ false)
right_parts true true true h = absurd (cc)
right_parts true true false h = (refl, refl)
right_parts true false e h = absurd (cc)
right_parts false f e h = absurd (cc)

last_part : (a b c : Bool) → (a && b && c) ≡ true → c ≡ true
last_part true true true e = refl
last_part true true false e = absurd (cc)
last_part true false c e = absurd (cc)
last_part false b c e = absurd (cc)

module _ (rows : List FamilyRow) (right : AreRight family_rules (map written_family rows)) where
  right_at : (k : ℕ) (d : FamilyRow) → k < length rows → wrong_of family_rules (take k (map written_family rows)) (written_family (get_or rows k d)) ≡ None
  right_at k d lt =
      let here : slice_get (map written_family rows) k ≡ Some (written_family (get_or rows k d)) = slice_get-map written_family rows k ∙ ap (option_map written_family) (slice_get-get_or rows k d lt) in
      let all : wrong_at family_rules (map written_family rows) k ≡ None = right k in
      rw here at all

  right_decides : (k : ℕ) (d : FamilyRow) → k < length rows → (family_rules.lengths (written_family (get_or rows k d)) ≡ true) × (has_earlier family_rules (take k (map written_family rows)) (written_family (get_or rows k d)) ≡ false)
  right_decides k d lt =
      right_parts (family_rules.lengths (written_family (get_or rows k d))) (family_rules.fields (written_family (get_or rows k d)))
      (has_earlier family_rules (take k (map written_family rows)) (written_family (get_or rows k d))) (right_at k d lt)

  pub keys_differ : KeysDiffer same_family rows
  keys_differ i j d lt within = elim (cases_Bool (same_family (get_or rows i d) (get_or rows j d))) [
    | inr other ↦ other
    | inl same ↦
        let earlier = take j (map written_family rows) in
        let long : i < length earlier = omega (arith, lt, within, length-take j (map written_family rows), length-map rows written_family) in
        let there : get_or earlier i (written_family d) ≡ written_family (get_or rows i d) = get_or-take j (map written_family rows) i (written_family d) lt ∙ get_or-map written_family rows i d (written_family d) (omega (arith, lt, within)) in
        let test : WrittenFamily → Bool = λ e. same_family (family_row e) (family_row (written_family (get_or rows j d))) in
        let some : list_any test earlier ≡ true = list_any_at test earlier i (written_family d) long (ap test there ∙ same) in
        absurd (both_ways (list_any test earlier) (right_decides j d within).1 some)
  ]

  short_at : All (λ (row : FamilyRow). length row.view + length row.subtree ≤ MAX_FAMILY) rows
  short_at k d lt =
      let row = get_or rows k d in
      let parts = right_decides k d lt in
      let last : nat_le (length row.view + length row.subtree) MAX_FAMILY ≡ true = last_part (has_length 1 MAX_NAME row.view) (nat_le (length row.mask) MAX_MASK) (nat_le (length row.view + length row.subtree) MAX_FAMILY) parts.0 in
      grind (arith, nat_tests, last)

  pub are_short : AllByRecursion (λ (row : FamilyRow). length row.view + length row.subtree ≤ MAX_FAMILY) rows
  are_short = recursion_from_All (λ (row : FamilyRow). length row.view + length row.subtree ≤ MAX_FAMILY) rows short_at
