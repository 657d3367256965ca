-- Which row an index has once another row was put or removed.
use Rattle.std.proofs.Common.{◌≡◌, ◌≢◌, Bool, true, false, cond, List, [], ◌∷◌, ◌++◌, Option, Some, None, refl, sym, ap, subst, ◌∙◌}
use Rattle.std.specs.Prelude.{filter, find}
use Rattle.std.specs.List.{AllByRecursion}
use Rattle.std.specs.List.Sorted.{IsStrictlySortedBy}
use Rattle.std.specs.Ordering.{is_lt, is_eq, is_gt}
use Rattle.std.specs.declared.cmp.Ordering.{Ordering}
use Rattle.std.specs.declared.cmp.Ordering.TheVariants.{Less, Equal, Greater}
use Rattle.std.proofs.lemmas.Cmp.{tied_itself, nat_list_cmp_total}
use Rattle.fdb_core.specs.declared.static_row.StaticIndex.{StaticIndex}
use Rattle.fdb_core.specs.declared.static_row.StaticRow.{StaticRow}
use Rattle.fdb_core.specs.Statics.{numbers_of, index_cmp, IsRising, rows_below, rows_above, row_of, put_row, without_row}
use Rattle.fdb_core.proofs.StaticOrder.{same_left, same_index, above_from_below, below_from_above, below_trans}

not_true : (b : Bool) → (b ≡ true → ⊥) → b ≡ false
not_true true h = absurd (h refl)
not_true false h = refl

is_equal : (o : Ordering) → is_eq o ≡ true → o ≡ Equal
is_equal Less h = cc
is_equal Equal h = refl
is_equal Greater h = cc

abbrev first_of : Option StaticRow → Option StaticRow → Option StaticRow
first_of None o = o
first_of (Some r) o = Some r

module _ (p : StaticRow → Bool) where
  found_joined : (xs ys : List StaticRow) → find p (xs ++ ys) ≡ first_of (find p xs) (find p ys)
  found_joined [] ys = refl
  found_joined (x ∷ xs) ys =
      let more = found_joined xs ys in
      elim (p x) as (λ b. cond b (Some x) (find p (xs ++ ys)) ≡ first_of (cond b (Some x) (find p xs)) (find p ys)) [ true ↦ refl | false ↦ more ]

  kept_step : (x : StaticRow) (xs ys : List StaticRow) (d : Bool) → (p x ≡ true → d ≡ true) → find p ys ≡ find p xs → find p (cond d (x ∷ ys) ys) ≡ cond (p x) (Some x) (find p xs)
  kept_step x xs ys true h e = ap (λ o. cond (p x) (Some x) o) e
  kept_step x xs ys false h e =
      let no : p x ≡ false = not_true (p x) (λ t. let bad = h t in cc) in
      rw no e

  dropped_step : (x : StaticRow) (ys : List StaticRow) (d : Bool) → (p x ≡ true → d ≡ false) → find p ys ≡ None → find p (cond d (x ∷ ys) ys) ≡ None
  dropped_step x ys false h e = e
  dropped_step x ys true h e =
      let no : p x ≡ false = not_true (p x) (λ t. let bad = h t in cc) in
      rw no e

  module _ (q : StaticRow → Bool) where
    -- a filter that keeps what is sought, and one that drops it
    found_kept : ((x : StaticRow) → p x ≡ true → q x ≡ true) → (xs : List StaticRow) → find p (filter q xs) ≡ find p xs
    found_kept keeps [] = refl
    found_kept keeps (x ∷ xs) = kept_step x xs (filter q xs) (q x) (keeps x) (found_kept keeps xs)

    found_dropped : ((x : StaticRow) → p x ≡ true → q x ≡ false) → (xs : List StaticRow) → find p (filter q xs) ≡ None
    found_dropped drops [] = refl
    found_dropped drops (x ∷ xs) = dropped_step x (filter q xs) (q x) (drops x) (found_dropped drops xs)

-- how a row of an address compares with another address
compares : (x : StaticRow) (a b : StaticIndex) → is_eq (index_cmp x.index b) ≡ true → index_cmp x.index a ≡ index_cmp b a
compares x a b e = same_left x.index b a (is_equal _ e)

first_none : (o : Option StaticRow) → first_of o None ≡ o
first_none None = refl
first_none (Some r) = refl

module _ (rows : List StaticRow) (r : StaticRow) (b : StaticIndex) where
  parts : row_of (put_row rows r) b ≡ first_of (row_of (rows_below rows r.index) b) (row_of (r ∷ rows_above rows r.index) b)
  parts = found_joined (λ x. is_eq (index_cmp x.index b)) (rows_below rows r.index) (r ∷ rows_above rows r.index)

  below_it : index_cmp b r.index ≡ Less → row_of (put_row rows r) b ≡ row_of rows b
  below_it e =
      let kept : row_of (rows_below rows r.index) b ≡ row_of rows b = found_kept (λ x. is_eq (index_cmp x.index b)) (λ x. is_lt (index_cmp x.index r.index)) (λ x h. ap is_lt (compares x r.index b h ∙ e)) rows in
      let dropped : row_of (rows_above rows r.index) b ≡ None = found_dropped (λ x. is_eq (index_cmp x.index b)) (λ x. is_gt (index_cmp x.index r.index)) (λ x h. ap is_gt (compares x r.index b h ∙ e)) rows in
      let here : index_cmp r.index b ≡ Greater = above_from_below b r.index e in
      let back : row_of (r ∷ rows_above rows r.index) b ≡ None = rw here dropped in
      parts ∙ ap (λ o. first_of (row_of (rows_below rows r.index) b) o) back ∙ first_none _ ∙ kept

  above_it : index_cmp b r.index ≡ Greater → row_of (put_row rows r) b ≡ row_of rows b
  above_it e =
      let dropped : row_of (rows_below rows r.index) b ≡ None = found_dropped (λ x. is_eq (index_cmp x.index b)) (λ x. is_lt (index_cmp x.index r.index)) (λ x h. ap is_lt (compares x r.index b h ∙ e)) rows in
      let kept : row_of (rows_above rows r.index) b ≡ row_of rows b = found_kept (λ x. is_eq (index_cmp x.index b)) (λ x. is_gt (index_cmp x.index r.index)) (λ x h. ap is_gt (compares x r.index b h ∙ e)) rows in
      let here : index_cmp r.index b ≡ Less = below_from_above b r.index e in
      let back : row_of (r ∷ rows_above rows r.index) b ≡ row_of rows b = rw here kept in
      parts ∙ ap (λ o. first_of o (row_of (r ∷ rows_above rows r.index) b)) dropped ∙ back

  by_order : (o : Ordering) → index_cmp b r.index ≡ o → b ≢ r.index → row_of (put_row rows r) b ≡ row_of rows b
  by_order Less e other = below_it e
  by_order Equal e other = absurd (other (same_index b r.index e))
  by_order Greater e other = above_it e

-- each other address has the row that it had
pub others_keep : (rows : List StaticRow) (r : StaticRow) (b : StaticIndex) → b ≢ r.index → row_of (put_row rows r) b ≡ row_of rows b
others_keep rows r b other = by_order rows r b (index_cmp b r.index) refl other

-- and this one has its own
pub its_own : (rows : List StaticRow) (r : StaticRow) → row_of (put_row rows r) r.index ≡ Some r
its_own rows r =
    let a = r.index in
    let equal : index_cmp a a ≡ Equal = tied_itself nat_list_cmp_total (numbers_of a) in
    let dropped : row_of (rows_below rows a) a ≡ None = found_dropped (λ x. is_eq (index_cmp x.index a)) (λ x. is_lt (index_cmp x.index a)) (λ x h. ap is_lt (is_equal _ h)) rows in
    let back : row_of (r ∷ rows_above rows a) a ≡ Some r = rw equal refl in
    parts rows r a ∙ ap (λ o. first_of o (row_of (r ∷ rows_above rows a) a)) dropped ∙ back

-- without the row of an index, that index has none
pub none_left : (rows : List StaticRow) (a : StaticIndex) → row_of (without_row rows a) a ≡ None
none_left rows a =
    let below : row_of (rows_below rows a) a ≡ None = found_dropped (λ x. is_eq (index_cmp x.index a)) (λ x. is_lt (index_cmp x.index a)) (λ x h. ap is_lt (is_equal _ h)) rows in
    let above : row_of (rows_above rows a) a ≡ None = found_dropped (λ x. is_eq (index_cmp x.index a)) (λ x. is_gt (index_cmp x.index a)) (λ x h. ap is_gt (is_equal _ h)) rows in
    found_joined (λ x. is_eq (index_cmp x.index a)) (rows_below rows a) (rows_above rows a) ∙ ap (λ o. first_of o (row_of (rows_above rows a) a)) below ∙ above

-- and each other index has the row that it had
left_by_order : (rows : List StaticRow) (a b : StaticIndex) (o : Ordering) → index_cmp b a ≡ o → b ≢ a → row_of (without_row rows a) b ≡ row_of rows b
left_by_order rows a b Less e other =
    let kept : row_of (rows_below rows a) b ≡ row_of rows b = found_kept (λ x. is_eq (index_cmp x.index b)) (λ x. is_lt (index_cmp x.index a)) (λ x h. ap is_lt (compares x a b h ∙ e)) rows in
    let dropped : row_of (rows_above rows a) b ≡ None = found_dropped (λ x. is_eq (index_cmp x.index b)) (λ x. is_gt (index_cmp x.index a)) (λ x h. ap is_gt (compares x a b h ∙ e)) rows in
    found_joined (λ x. is_eq (index_cmp x.index b)) (rows_below rows a) (rows_above rows a) ∙ ap (λ o. first_of (row_of (rows_below rows a) b) o) dropped ∙ first_none _ ∙ kept
left_by_order rows a b Equal e other = absurd (other (same_index b a e))
left_by_order rows a b Greater e other =
    let dropped : row_of (rows_below rows a) b ≡ None = found_dropped (λ x. is_eq (index_cmp x.index b)) (λ x. is_lt (index_cmp x.index a)) (λ x h. ap is_lt (compares x a b h ∙ e)) rows in
    let kept : row_of (rows_above rows a) b ≡ row_of rows b = found_kept (λ x. is_eq (index_cmp x.index b)) (λ x. is_gt (index_cmp x.index a)) (λ x h. ap is_gt (compares x a b h ∙ e)) rows in
    found_joined (λ x. is_eq (index_cmp x.index b)) (rows_below rows a) (rows_above rows a) ∙ ap (λ o. first_of o (row_of (rows_above rows a) b)) dropped ∙ kept

pub others_left : (rows : List StaticRow) (a b : StaticIndex) → b ≢ a → row_of (without_row rows a) b ≡ row_of rows b
others_left rows a b other = left_by_order rows a b (index_cmp b a) refl other

-- a row that is found is of the index that was sought
found_at : (x : StaticRow) (xs : List StaticRow) (a : StaticIndex) (r : StaticRow) (o : Ordering) → index_cmp x.index a ≡ o → (row_of xs a ≡ Some r → r.index ≡ a) → row_of (x ∷ xs) a ≡ Some r → r.index ≡ a
found_at x xs a r Less f more e = let left : row_of xs a ≡ Some r = rw f at e in more left
found_at x xs a r Greater f more e = let left : row_of xs a ≡ Some r = rw f at e in more left
found_at x xs a r Equal f more e =
    let here : Some x ≡ Some r = rw f at e in
    let is : x ≡ r = cc in
    ap (λ (y : StaticRow). y.index) (sym is) ∙ same_index x.index a f

pub found_index : (rows : List StaticRow) (a : StaticIndex) (r : StaticRow) → row_of rows a ≡ Some r → r.index ≡ a
found_index [] a r e = absurd cc
found_index (x ∷ xs) a r e = found_at x xs a r (index_cmp x.index a) refl (found_index xs a r) e

-- an index that is below all rows has none
pub none_behind : (xs : List StaticRow) (a : StaticIndex) → AllByRecursion (λ y. index_cmp a y.index ≡ Less) xs → row_of xs a ≡ None
none_behind [] a h = refl
none_behind (y ∷ ys) a h =
    let above : index_cmp y.index a ≡ Greater = above_from_below a y.index h.0 in
    rw above (none_behind ys a h.1)

below_more : (a b : StaticIndex) → index_cmp a b ≡ Less → (xs : List StaticRow) → AllByRecursion (λ z. index_cmp b z.index ≡ Less) xs → AllByRecursion (λ z. index_cmp a z.index ≡ Less) xs
below_more a b e [] h = tt
below_more a b e (x ∷ xs) h = (below_trans a b x.index e h.0, below_more a b e xs h.1)

-- a row in front is that of its index
head_of : (x : StaticRow) (xs : List StaticRow) → row_of (x ∷ xs) x.index ≡ Some x
head_of x xs =
    let same : index_cmp x.index x.index ≡ Equal = tied_itself nat_list_cmp_total (numbers_of x.index) in
    rw same refl

-- and of no other
behind_head : (x : StaticRow) (xs : List StaticRow) (a : StaticIndex) → index_cmp x.index a ≡ Less → row_of (x ∷ xs) a ≡ row_of xs a
behind_head x xs a e = rw e refl

above_none : (x : StaticRow) (xs : List StaticRow) → AllByRecursion (λ z. index_cmp x.index z.index ≡ Less) xs → (a : StaticIndex) → index_cmp a x.index ≡ Less → row_of (x ∷ xs) a ≡ None
above_none x xs up a e = none_behind (x ∷ xs) a (e, below_more a x.index e xs up)

-- the first rows of two tables that agree are one
first_by : (x y : StaticRow) (xs ys : List StaticRow) → AllByRecursion (λ z. index_cmp x.index z.index ≡ Less) xs → AllByRecursion (λ z. index_cmp y.index z.index ≡ Less) ys → ((i : StaticIndex) → row_of (x ∷ xs) i ≡ row_of (y ∷ ys) i) → (o : Ordering) → index_cmp x.index y.index ≡ o → x ≡ y
first_by x y xs ys up vp same Equal e =
    let i : x.index ≡ y.index = same_index x.index y.index e in
    let there : row_of (y ∷ ys) x.index ≡ Some y = ap (row_of (y ∷ ys)) i ∙ head_of y ys in
    let both : Some x ≡ Some y = sym (head_of x xs) ∙ same x.index ∙ there in
    cc
first_by x y xs ys up vp same Less e =
    let none : Some x ≡ None = sym (head_of x xs) ∙ same x.index ∙ above_none y ys vp x.index e in
    absurd cc
first_by x y xs ys up vp same Greater e =
    let none : Some y ≡ None = sym (head_of y ys) ∙ sym (same y.index) ∙ above_none x xs up y.index (below_from_above x.index y.index e) in
    absurd cc

-- so what is behind them agrees too
rest_by : (x : StaticRow) (xs ys : List StaticRow) → AllByRecursion (λ z. index_cmp x.index z.index ≡ Less) xs → AllByRecursion (λ z. index_cmp x.index z.index ≡ Less) ys → ((i : StaticIndex) → row_of (x ∷ xs) i ≡ row_of (x ∷ ys) i) → (i : StaticIndex) (o : Ordering) → index_cmp x.index i ≡ o → row_of xs i ≡ row_of ys i
rest_by x xs ys up vp same i Less e = sym (behind_head x xs i e) ∙ same i ∙ behind_head x ys i e
rest_by x xs ys up vp same i Equal e =
    let is : x.index ≡ i = same_index x.index i e in
    sym (ap (row_of xs) is) ∙ (none_behind xs x.index up ∙ sym (none_behind ys x.index vp)) ∙ ap (row_of ys) is
rest_by x xs ys up vp same i Greater e =
    let lower : index_cmp i x.index ≡ Less = below_from_above x.index i e in
    none_behind xs i (below_more i x.index lower xs up) ∙ sym (none_behind ys i (below_more i x.index lower ys vp))

-- two tables that agree on each index are one
pub same_tables : (xs ys : List StaticRow) → IsRising xs → IsRising ys → ((i : StaticIndex) → row_of xs i ≡ row_of ys i) → xs ≡ ys
unfolding IsStrictlySortedBy
same_tables [] [] up vp same = refl
same_tables [] (y ∷ ys) up vp same = let none : None ≡ Some y = same y.index ∙ head_of y ys in absurd cc
same_tables (x ∷ xs) [] up vp same = let none : Some x ≡ None = sym (head_of x xs) ∙ same x.index in absurd cc
same_tables (x ∷ xs) (y ∷ ys) up vp same =
    let first : x ≡ y = first_by x y xs ys up.0 vp.0 same (index_cmp x.index y.index) refl in
    let wp : AllByRecursion (λ z. index_cmp x.index z.index ≡ Less) ys = subst (λ (r : StaticRow). AllByRecursion (λ z. index_cmp r.index z.index ≡ Less) ys) (sym first) vp.0 in
    let agree : (i : StaticIndex) → row_of (x ∷ xs) i ≡ row_of (x ∷ ys) i = λ i. same i ∙ ap (λ (r : StaticRow). row_of (r ∷ ys) i) (sym first) in
    let more = same_tables xs ys up.1 vp.1 (λ i. rest_by x xs ys up.0 wp agree i (index_cmp x.index i) refl) in
    λ i. first i ∷ more i
