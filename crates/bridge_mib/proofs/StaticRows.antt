-- What the made static rows show under an index, and behind it; and the numbers in front of an index.
use Rattle.std.proofs.Common.{◌≡◌, ◌≢◌, ℕ, zero, suc, ◌+◌, ◌-◌, ◌<◌, ◌≤◌, ◌^◌, Bool, true, false, cond, nat_eq, nat_lt, List, [], ◌∷◌, ◌++◌, length, get_or, map, take, find, Option, Some, None, option_map, refl, sym, ap, ◌∙◌, arith, ◌⊎◌, inl, inr}
use Rattle.std.specs.Prelude.{◌==◌, slice_get, filter, replicate}
use Rattle.std.specs.List.{AllByRecursion}
use Rattle.std.specs.Ordering.{is_gt, nat_cmp}
use Rattle.std.specs.Cmp.Lexicographic.{slice_cmp}
use Rattle.std.specs.declared.cmp.Ordering.{Ordering}
use Rattle.std.specs.declared.cmp.Ordering.TheVariants.{Less}
use Rattle.std.proofs.lemmas.Bool.{ltb-true, ltb-false}
use Rattle.std.proofs.lemmas.Bool.Decides.{eqb_tells, nat_tests}
use Rattle.std.proofs.lemmas.Cmp.{same_from_slice_cmp}
use Rattle.std.proofs.lemmas.List.{take_all}
use Rattle.std.proofs.lemmas.Map.Keys.{sorted_head, sorted_tail}
use Rattle.fdb_core.specs.declared.static_row.StaticRow.{StaticRow}
use Rattle.fdb_core.specs.Statics.{numbers_of, index_cmp, IsRising, made_rows, next_made}
use Rattle.oid_core.specs.Order.{name_lt, name_eq}
use Rattle.oid_core.proofs.OrderLaws.{eq_same, name_lt-cmp}
use Rattle.message_core.specs.declared.value.Value.{Value}
use Rattle.setphase_core.specs.Values.{IndexedValue, by_static, value_at, index_after}

gt_test : (a b : List ℕ) (o : Ordering) → o ≡ slice_cmp nat_cmp a b → is_gt o ≡ name_lt b a
gt_test = same_from_slice_cmp nat_cmp is_gt (λ a b. name_lt b a) refl (λ _ _. refl) (λ _ _. refl) (λ x y xs ys o h. grind (arith, nat_tests))

abbrev numbers : StaticRow → List ℕ
numbers r = numbers_of r.index

abbrev shown : (StaticRow → Value) → StaticRow → IndexedValue
shown f r = record { index = numbers r; value = f r }

-- the rows above some numbers
abbrev rows_behind : List StaticRow → List ℕ → List StaticRow
rows_behind rows low = filter (λ r. is_gt (slice_cmp nat_cmp (numbers r) low)) rows

-- ---- behind an index

behind_step : (r : StaticRow) (f : StaticRow → Value) (after : List ℕ) (above made : Bool) (kept others : List StaticRow) → r.made ≡ made → name_lt after (numbers r) ≡ above →
    option_map numbers (find (λ s. s.made) kept) ≡ option_map (λ (s : IndexedValue). s.index) (find (λ s. name_lt after s.index) (map (shown f) others)) →
    option_map numbers (find (λ s. s.made) (cond above (r ∷ kept) kept)) ≡ option_map (λ (s : IndexedValue). s.index) (find (λ s. name_lt after s.index) (map (shown f) (cond made (r ∷ others) others)))
behind_step r f after true true kept others e g h = rw e (rw g refl)
behind_step r f after true false kept others e g h = rw e h
behind_step r f after false true kept others e g h = rw g h
behind_step r f after false false kept others e g h = h

pub next_behind : (rows : List StaticRow) (f : StaticRow → Value) (after : List ℕ) → option_map numbers (next_made rows after) ≡ index_after (by_static rows f) (Some after)
next_behind [] f after = refl
next_behind (r ∷ rows) f after =
    let test : is_gt (slice_cmp nat_cmp (numbers r) after) ≡ name_lt after (numbers r) = gt_test (numbers r) after (slice_cmp nat_cmp (numbers r) after) refl in
    behind_step r f after (is_gt (slice_cmp nat_cmp (numbers r) after)) r.made (rows_behind rows after) (made_rows rows) refl (sym test) (next_behind rows f after)

-- an index that is not empty comes behind the empty one
behind_none : (xs : List ℕ) (p : ℕ) → name_lt [] (xs ++ p ∷ []) ≡ true
behind_none [] p = refl
behind_none (x ∷ xs) p = refl

first_step : (r : StaticRow) (f : StaticRow → Value) (made : Bool) (others : List StaticRow) →
    option_map (λ (s : IndexedValue). s.index) (find (λ s. name_lt [] s.index) (map (shown f) others)) ≡ option_map (λ (s : IndexedValue). s.index) (slice_get (map (shown f) others) 0) →
    option_map (λ (s : IndexedValue). s.index) (find (λ s. name_lt [] s.index) (map (shown f) (cond made (r ∷ others) others))) ≡ option_map (λ (s : IndexedValue). s.index) (slice_get (map (shown f) (cond made (r ∷ others) others)) 0)
first_step r f true others h = rw (behind_none r.index.address.0 r.index.port) refl
first_step r f false others h = h

first_behind : (rows : List StaticRow) (f : StaticRow → Value) → index_after (by_static rows f) (Some []) ≡ index_after (by_static rows f) None
first_behind [] f = refl
first_behind (r ∷ rows) f = first_step r f r.made (made_rows rows) (first_behind rows f)

pub next_first : (rows : List StaticRow) (f : StaticRow → Value) → option_map numbers (next_made rows []) ≡ index_after (by_static rows f) None
next_first rows f = next_behind rows f [] ∙ first_behind rows f

-- ---- under an index

-- numbers of which only one list is behind some
apart : (low xs ys : List ℕ) (a b : Bool) → name_lt low xs ≡ a → name_lt low ys ≡ b → a ≢ b → name_eq xs ys ≡ false
apart low xs ys a b e g ne = by_test (name_eq xs ys) refl
  where
    by_test : (v : Bool) → name_eq xs ys ≡ v → v ≡ false
    by_test false h = refl
    by_test true h =
        let same : a ≡ b = sym e ∙ ap (name_lt low) (eq_same xs ys h) ∙ g in
        absurd (ne same)

true_not_false : true ≢ false
true_not_false e = absurd cc

none_step : (s : StaticRow) (f : StaticRow → Value) (at : List ℕ) (made : Bool) (others : List StaticRow) → name_eq (numbers s) at ≡ false →
    value_at (map (shown f) others) at ≡ None → value_at (map (shown f) (cond made (s ∷ others) others)) at ≡ None
none_step s f at true others e h = rw e h
none_step s f at false others e h = h

-- no row behind one that is not below an index has that index
none_behind : (r : StaticRow) (rows : List StaticRow) (f : StaticRow → Value) (at : List ℕ) → AllByRecursion (λ (s : StaticRow). index_cmp r.index s.index ≡ Less) rows →
    name_lt (numbers r) at ≡ false → value_at (by_static rows f) at ≡ None
none_behind r [] f at h e = refl
none_behind r (s ∷ rows) f at h e =
    let above : name_lt (numbers r) (numbers s) ≡ true = sym (name_lt-cmp (numbers r) (numbers s) Less (sym h.0)) in
    none_step s f at s.made (made_rows rows) (apart (numbers r) (numbers s) at true false above e true_not_false) (none_behind r rows f at h.1 e)

-- the row, if it has the index
abbrev if_at : List ℕ → Option StaticRow → Option StaticRow
if_at at None = None
if_at at (Some r) = cond (name_eq (numbers r) at) (Some r) None

found_here : (r : StaticRow) (f : StaticRow → Value) (at : List ℕ) (others : List StaticRow) (same : Bool) → name_eq (numbers r) at ≡ same →
    value_at (map (shown f) others) at ≡ None → value_at (map (shown f) (r ∷ others)) at ≡ option_map f (cond same (Some r) None)
found_here r f at others true e h = rw e refl
found_here r f at others false e h = rw e h

-- Where no row stands between some numbers and an index, the first made row above the numbers is the
-- one of the index, if there is one.
pub found : (rows : List StaticRow) (f : StaticRow → Value) (low at : List ℕ) → IsRising rows → name_lt low at ≡ true → ((r : StaticRow) → next_made rows low ≡ Some r → name_lt (numbers r) at ≡ false) →
    value_at (by_static rows f) at ≡ option_map f (if_at at (next_made rows low))
found [] f low at up lt from = refl
found (r ∷ rows) f low at up lt from = step (found rows f low at (sorted_tail order r rows up) lt) (is_gt (slice_cmp nat_cmp (numbers r) low)) r.made refl refl
  where
    order : StaticRow → StaticRow → Ordering
    order a b = index_cmp a.index b.index

    test : is_gt (slice_cmp nat_cmp (numbers r) low) ≡ name_lt low (numbers r)
    test = gt_test (numbers r) low (slice_cmp nat_cmp (numbers r) low) refl

    step : (((s : StaticRow) → next_made rows low ≡ Some s → name_lt (numbers s) at ≡ false) → value_at (by_static rows f) at ≡ option_map f (if_at at (next_made rows low))) →
        (above made : Bool) → is_gt (slice_cmp nat_cmp (numbers r) low) ≡ above → r.made ≡ made →
        value_at (by_static (r ∷ rows) f) at ≡ option_map f (if_at at (next_made (r ∷ rows) low))
    step rest true true a m =
        let first : next_made (r ∷ rows) low ≡ Some r = rw a (rw m refl) in
        let head : made_rows (r ∷ rows) ≡ r ∷ made_rows rows = rw m refl in
        let none : value_at (by_static rows f) at ≡ None = none_behind r rows f at (sorted_head order r rows up) (from r first) in
        ap (λ (xs : List StaticRow). value_at (map (shown f) xs) at) head
        ∙ found_here r f at (made_rows rows) (name_eq (numbers r) at) refl none
        ∙ ap (λ (o : Option StaticRow). option_map f (if_at at o)) (sym first)
    step rest true false a m =
        let later : next_made (r ∷ rows) low ≡ next_made rows low = rw a (rw m refl) in
        let head : made_rows (r ∷ rows) ≡ made_rows rows = rw m refl in
        ap (λ (xs : List StaticRow). value_at (map (shown f) xs) at) head
        ∙ rest (λ s e. from s (later ∙ e))
        ∙ ap (λ (o : Option StaticRow). option_map f (if_at at o)) (sym later)
    step rest false made a m =
        let later : next_made (r ∷ rows) low ≡ next_made rows low = rw a refl in
        let other : name_eq (numbers r) at ≡ false = apart low (numbers r) at false true (sym test ∙ a) lt (λ e. true_not_false (sym e)) in
        left made m other
        ∙ rest (λ s e. from s (later ∙ e))
        ∙ ap (λ (o : Option StaticRow). option_map f (if_at at o)) (sym later)
      where
        left : (b : Bool) → r.made ≡ b → name_eq (numbers r) at ≡ false → value_at (by_static (r ∷ rows) f) at ≡ value_at (by_static rows f) at
        left true e away = rw e (rw away refl)
        left false e away = rw e refl

-- no index is empty
pub none_empty : (rows : List StaticRow) (f : StaticRow → Value) → value_at (by_static rows f) [] ≡ None
none_empty [] f = refl
none_empty (r ∷ rows) f = none_step r f [] r.made (made_rows rows) (some r.index.address.0 r.index.port) (none_empty rows f)
  where
    some : (xs : List ℕ) (p : ℕ) → name_eq (xs ++ p ∷ []) [] ≡ false
    some [] p = refl
    some (x ∷ xs) p = refl

-- ---- numbers in front of an index

-- no list of so many numbers stands between some numbers and an index
abbrev pub NoneBetween : ℕ → List ℕ → List ℕ → Type 0
NoneBetween count low at = (other : List ℕ) → length other ≡ count → AllByRecursion (λ n. n < 2 ^ 32) other → name_lt low other ≡ true → name_lt other at ≡ false

abbrev pub greatest : ℕ → List ℕ
greatest count = replicate count 4294967295

none_behind_greatest : (count : ℕ) (other : List ℕ) → length other ≡ count → AllByRecursion (λ n. n < 2 ^ 32) other → name_lt (greatest count) other ≡ false
none_behind_greatest count [] len is = refl
none_behind_greatest zero (y ∷ ys) len is = absurd (omega (arith, len))
none_behind_greatest (suc count) (y ∷ ys) len is =
    let no : nat_lt 4294967295 y ≡ false = grind (arith, nat_tests, is.0) in
    rw no (pick (nat_eq 4294967295 y) (none_behind_greatest count ys (omega (arith, len)) is.1))
  where
    pick : (b : Bool) → name_lt (greatest count) ys ≡ false → cond b (name_lt (greatest count) ys) false ≡ false
    pick true rest = rest
    pick false rest = refl

pub between_none : (low at : List ℕ) → NoneBetween 0 low at
between_none low at [] len is lt = absurd cc
between_none low at (y ∷ ys) len is lt = absurd (omega (arith, len))

pub between_zero : (count : ℕ) (low : List ℕ) → NoneBetween count low (0 ∷ [])
between_zero count low [] len is lt = absurd cc
between_zero count low (y ∷ ys) len is lt =
    let no : nat_lt y 0 ≡ false = grind (arith, nat_tests) in
    rw no (pick (nat_eq y 0))
  where
    pick : (b : Bool) → cond b false false ≡ false
    pick true = refl
    pick false = refl

pub between_last : (count x : ℕ) → x ≢ 0 → NoneBetween (suc count) ((x - 1) ∷ greatest count) (x ∷ [])
between_last count x some [] len is lt = absurd (omega (arith, len))
between_last count x some (y ∷ ys) len is lt =
    let none = none_behind_greatest count ys (omega (arith, len)) is.1 in
    let from : x ≤ y = by_test (nat_lt (x - 1) y) (nat_eq (x - 1) y) refl none lt in
    let no : nat_lt y x ≡ false = grind (arith, nat_tests, from) in
    rw no (pick (nat_eq y x))
  where
    by_test : (a b : Bool) → nat_lt (x - 1) y ≡ a → name_lt (greatest count) ys ≡ false → cond a true (cond b (name_lt (greatest count) ys) false) ≡ true → x ≤ y
    by_test true b e none h = omega (arith, ltb-true (x - 1) y e, some)
    by_test false true e none h = absurd cc
    by_test false false e none h = absurd cc

    pick : (b : Bool) → cond b false false ≡ false
    pick true = refl
    pick false = refl

pub between_more : (count x : ℕ) (low at : List ℕ) → NoneBetween count low at → NoneBetween (suc count) (x ∷ low) (x ∷ at)
between_more count x low at rest [] len is lt = absurd (omega (arith, len))
between_more count x low at rest (y ∷ ys) len is lt = elim (eqb_tells x y) [
  | inl here ↦
      let equal : nat_eq y x ≡ true = grind (arith, nat_tests, here.1) in
      let over : nat_lt x y ≡ false = grind (arith, nat_tests, here.1) in
      let under : nat_lt y x ≡ false = grind (arith, nat_tests, here.1) in
      let more : name_lt low ys ≡ true = narrowed (nat_lt x y) (nat_eq x y) over here.0 lt in
      rw under (rw equal (rest ys (omega (arith, len)) is.1 more))
  | inr there ↦
      let other : nat_eq y x ≡ false = grind (arith, nat_tests, there.1) in
      let up : x < y = by_test (nat_lt x y) (nat_eq x y) refl there.0 lt in
      let under : nat_lt y x ≡ false = grind (arith, nat_tests, up) in
      rw under (rw other refl)
]
  where
    narrowed : (a b : Bool) → a ≡ false → b ≡ true → cond a true (cond b (name_lt low ys) false) ≡ true → name_lt low ys ≡ true
    narrowed false true e g h = h
    narrowed true b e g h = absurd cc
    narrowed false false e g h = absurd cc

    by_test : (a b : Bool) → nat_lt x y ≡ a → b ≡ false → cond a true (cond b (name_lt low ys) false) ≡ true → x < y
    by_test true b e g h = ltb-true x y e
    by_test false true e g h = absurd cc
    by_test false false e g h = absurd cc

-- each is in front of its index
pub below_last : (x : ℕ) (more : List ℕ) → x ≢ 0 → name_lt ((x - 1) ∷ more) (x ∷ []) ≡ true
below_last x more some =
    let lt : nat_lt (x - 1) x ≡ true = grind (arith, nat_tests, some) in
    rw lt refl

pub below_more : (x : ℕ) (low at : List ℕ) → name_lt low at ≡ true → name_lt (x ∷ low) (x ∷ at) ≡ true
below_more x low at h =
    let lt : nat_lt x x ≡ false = grind (arith, nat_tests) in
    let eq : nat_eq x x ≡ true = grind (arith, nat_tests) in
    rw lt (rw eq h)

-- ---- the first made row above such numbers

-- the row that is found is above them
made_above : (rows : List StaticRow) (low : List ℕ) (row : StaticRow) → next_made rows low ≡ Some row → name_lt low (numbers row) ≡ true
made_above [] low row e = absurd cc
made_above (r ∷ rows) low row e = step (made_above rows low row) (is_gt (slice_cmp nat_cmp (numbers r) low)) r.made refl refl
  where
    test : is_gt (slice_cmp nat_cmp (numbers r) low) ≡ name_lt low (numbers r)
    test = gt_test (numbers r) low (slice_cmp nat_cmp (numbers r) low) refl

    step : (next_made rows low ≡ Some row → name_lt low (numbers row) ≡ true) → (above made : Bool) → is_gt (slice_cmp nat_cmp (numbers r) low) ≡ above → r.made ≡ made → name_lt low (numbers row) ≡ true
    step rest true true a m =
        let first : next_made (r ∷ rows) low ≡ Some r = rw a (rw m refl) in
        let same : r ≡ row = one (sym first ∙ e) in
        ap (λ (s : StaticRow). name_lt low (numbers s)) (sym same) ∙ sym test ∙ a
      where
        one : {x y : StaticRow} → Some x ≡ Some y → x ≡ y
        one h = cc
    step rest true false a m =
        let later : next_made (r ∷ rows) low ≡ next_made rows low = rw a (rw m refl) in
        rest (sym later ∙ e)
    step rest false made a m =
        let later : next_made (r ∷ rows) low ≡ next_made rows low = rw a refl in
        rest (sym later ∙ e)

-- Where there is none, there is no row of the index.
pub read_none : (rows : List StaticRow) (f : StaticRow → Value) (low at : List ℕ) → IsRising rows → name_lt low at ≡ true → None ≡ next_made rows low → value_at (by_static rows f) at ≡ None
read_none rows f low at up lt e =
    found rows f low at up lt (λ r h. no_row (e ∙ h)) ∙ ap (λ (o : Option StaticRow). option_map f (if_at at o)) (sym e)
  where
    no_row : {r : StaticRow} {b : Bool} → None ≡ Some r → b ≡ false
    no_row h = absurd cc

-- Else it is the row of the index, or there is no such row.
pub read_some : (rows : List StaticRow) (f : StaticRow → Value) (low at : List ℕ) (row : StaticRow) (same : Bool) → IsRising rows → name_lt low at ≡ true → NoneBetween 7 low at →
    length (numbers row) ≡ 7 → AllByRecursion (λ n. n < 2 ^ 32) (numbers row) → Some row ≡ next_made rows low → same ≡ name_eq (numbers row) at →
    value_at (by_static rows f) at ≡ option_map f (cond same (Some row) None)
read_some rows f low at row same up lt between seven fit e is =
    found rows f low at up lt (λ r h. ap (λ (s : StaticRow). name_lt (numbers s) at) (sym (one (e ∙ h))) ∙ from)
    ∙ ap (λ (o : Option StaticRow). option_map f (if_at at o)) (sym e)
    ∙ ap (λ (b : Bool). option_map f (cond b (Some row) None)) (sym is)
  where
    from : name_lt (numbers row) at ≡ false
    from = between (numbers row) seven fit (made_above rows low row (sym e))

    one : {x y : StaticRow} → Some x ≡ Some y → x ≡ y
    one h = cc

-- ---- as the functions have it

not_zero : (n : ℕ) → (suc n == 0) ≡ false
not_zero n = grind (arith, nat_tests)

pub none_of_empty : (rows : List StaticRow) (f : StaticRow → Value) (at : List ℕ) (b : Bool) → b ≡ (length at == 0) → b ≡ true → value_at (by_static rows f) at ≡ None
none_of_empty rows f [] b e h = none_empty rows f
none_of_empty rows f (x ∷ at) b e h = absurd (true_not_false (sym h ∙ e ∙ not_zero (length at)))

pub some_length : (at : List ℕ) (b : Bool) → b ≡ (length at == 0) → b ≡ false → 0 < length at
some_length [] b e h = absurd (true_not_false (sym e ∙ h))
some_length (x ∷ at) b e h = omega arith

pub below_none : (at : List ℕ) → 0 < length at → name_lt [] at ≡ true
below_none [] h = absurd (omega (arith, h))
below_none (x ∷ at) h = refl

pub between_empty : (count : ℕ) (low : List ℕ) → NoneBetween count low []
between_empty count low other len is lt = refl

-- the same of lists and numbers that are equal
pub between_stated : (whole count : ℕ) (low front at stated : List ℕ) → whole ≡ count → front ≡ low → stated ≡ at → NoneBetween count low at → NoneBetween whole front stated
between_stated whole count low front at stated e g h none other len is lt =
    ap (name_lt other) h ∙ none other (len ∙ e) is (ap (λ (xs : List ℕ). name_lt xs other) (sym g) ∙ lt)

pub empty_is : (xs : List ℕ) (b : Bool) → b ≡ (length xs == 0) → b ≡ true → xs ≡ []
empty_is [] b e h = refl
empty_is (x ∷ xs) b e h = absurd (true_not_false (sym h ∙ e ∙ not_zero (length xs)))

pub more_is : (r x : ℕ) (low : List ℕ) → take (r + 1) (x ∷ low) ≡ x ∷ take r low
more_is r x low =
    let next : r + 1 ≡ suc r = omega arith in
    ap (λ (k : ℕ). take k (x ∷ low)) next

pub greatest_is : (y count : ℕ) (low : List ℕ) → low ≡ greatest count → take (length low + 1) (y ∷ low) ≡ y ∷ greatest count
greatest_is y count low e = more_is (length low) y low ∙ ap (λ (xs : List ℕ). y ∷ xs) (take_all (length low) low (omega arith) ∙ e)

pub all_fit : (xs : List ℕ) → ((i : ℕ) → get_or xs i 0 < 2 ^ 32) → AllByRecursion (λ n. n < 2 ^ 32) xs
all_fit [] h = tt
all_fit (x ∷ xs) h = (h 0, all_fit xs (λ i. h (suc i)))
