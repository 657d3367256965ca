-- The next made row after some numbers is the lowest made row above them.
use Rattle.std.proofs.Common.{◌≡◌, ◌≢◌, ℕ, Bool, true, false, cond, List, [], ◌∷◌, Some, None, refl, sym, ap, subst, ◌∙◌}
use Rattle.std.specs.List.{AllByRecursion}
use Rattle.std.specs.List.Sorted.{IsStrictlySortedBy}
use Rattle.std.specs.Ordering.{is_eq, is_gt}
use Rattle.std.specs.declared.cmp.Ordering.{Ordering}
use Rattle.std.specs.declared.cmp.Ordering.TheVariants.{Less, Equal, Greater}
use Rattle.std.proofs.lemmas.Cmp.{tied_itself, nat_list_cmp_total}
use Rattle.fdb_core.specs.declared.static_row.StaticIndex.{StaticIndex}
use Rattle.fdb_core.specs.declared.static_row.StaticRow.{StaticRow}
use Rattle.fdb_core.specs.Statics.{numbers_of, index_cmp, IsRising, row_of, next_made, IsMadeAbove}
use Rattle.fdb_core.proofs.StaticOrder.{above_from_below}
use Rattle.fdb_core.proofs.StaticWalk.{greater}

-- what holds of each row holds of one that is found
pub found_all : (P : StaticRow → Type 0) (xs : List StaticRow) (i : StaticIndex) (r : StaticRow) → AllByRecursion P xs → row_of xs i ≡ Some r → P r
found_all P [] i r h e = absurd cc
found_all P (x ∷ xs) i r h e = by (is_eq (index_cmp x.index i)) (λ f. found_all P xs i r h.1 f) e
  where
    by : (v : Bool) → (row_of xs i ≡ Some r → P r) → cond v (Some x) (row_of xs i) ≡ Some r → P r
    by true more f = let is : x ≡ r = cc in subst P is h.0
    by false more f = more f

is_greater : (o : Ordering) → is_gt o ≡ true → o ≡ Greater
is_greater Less e = absurd cc
is_greater Equal e = absurd cc
is_greater Greater e = refl

not_lower : (a b : StaticIndex) → index_cmp b a ≡ Less → index_cmp a b ≢ Less
not_lower a b e f = let g : index_cmp a b ≡ Greater = above_from_below b a e in absurd cc

not_below_itself : (a : StaticIndex) → index_cmp a a ≢ Less
not_below_itself a f = let g : index_cmp a a ≡ Equal = tied_itself nat_list_cmp_total (numbers_of a) in absurd cc

none_lower : (x : StaticRow) (xs : List StaticRow) → AllByRecursion (λ z. index_cmp x.index z.index ≡ Less) xs → AllByRecursion (λ z. index_cmp z.index x.index ≢ Less) xs
none_lower x [] h = tt
none_lower x (z ∷ zs) h = (not_lower z.index x.index h.0, none_lower x zs h.1)

module _ (numbers : List ℕ) where
  next_here : (x : StaticRow) (xs : List StaticRow) → greater numbers x ≡ true → x.made ≡ true → next_made (x ∷ xs) numbers ≡ Some x
  next_here x xs e m = rw (e, m) refl

  next_unmade : (x : StaticRow) (xs : List StaticRow) → greater numbers x ≡ true → x.made ≡ false → next_made (x ∷ xs) numbers ≡ next_made xs numbers
  next_unmade x xs e m = rw (e, m) refl

  next_behind : (x : StaticRow) (xs : List StaticRow) → greater numbers x ≡ false → next_made (x ∷ xs) numbers ≡ next_made xs numbers
  next_behind x xs e = rw e refl

  -- a row that is found behind another row is found from that on
  later : (x : StaticRow) (xs : List StaticRow) (row : StaticRow) → AllByRecursion (λ z. index_cmp x.index z.index ≡ Less) xs → IsMadeAbove xs numbers row → IsMadeAbove (x ∷ xs) numbers row
  later x xs row up h =
      let below : index_cmp x.index row.index ≡ Less = found_all (λ z. index_cmp x.index z.index ≡ Less) xs row.index row up h.there in
      let passed : row_of (x ∷ xs) row.index ≡ row_of xs row.index = rw below refl in
      record { there = passed ∙ h.there; made = h.made; above = h.above }

  -- and one that is not the first is behind it
  narrowed : (x : StaticRow) (xs : List StaticRow) (other : StaticRow) → (greater numbers x ≡ true → x.made ≡ true → ⊥) → IsMadeAbove (x ∷ xs) numbers other → IsMadeAbove xs numbers other
  narrowed x xs other first h = by (is_eq (index_cmp x.index other.index)) h.there
    where
      by : (v : Bool) → cond v (Some x) (row_of xs other.index) ≡ Some other → IsMadeAbove xs numbers other
      by true e =
          let is : other ≡ x = cc in
          absurd (first (ap (greater numbers) (sym is) ∙ ap is_gt h.above) (ap (λ (r : StaticRow). r.made) (sym is) ∙ h.made))
      by false e = record { there = e; made = h.made; above = h.above }

  some_by : (x : StaticRow) (xs : List StaticRow) (row : StaticRow) (v w : Bool) → greater numbers x ≡ v → x.made ≡ w → AllByRecursion (λ z. index_cmp x.index z.index ≡ Less) xs → (next_made xs numbers ≡ Some row → IsMadeAbove xs numbers row) → next_made (x ∷ xs) numbers ≡ Some row → IsMadeAbove (x ∷ xs) numbers row
  some_by x xs row true true e m up more f =
      let both : Some x ≡ Some row = sym (next_here x xs e m) ∙ f in
      let is : x ≡ row = cc in
      let tied : index_cmp x.index x.index ≡ Equal = tied_itself nat_list_cmp_total (numbers_of x.index) in
      let first : row_of (x ∷ xs) x.index ≡ Some x = rw tied refl in
      subst (IsMadeAbove (x ∷ xs) numbers) is (record { there = first; made = m; above = is_greater _ e })
  some_by x xs row true false e m up more f = later x xs row up (more (sym (next_unmade x xs e m) ∙ f))
  some_by x xs row false w e m up more f = later x xs row up (more (sym (next_behind x xs e) ∙ f))

  pub next_is_above : (rows : List StaticRow) (row : StaticRow) → IsRising rows → next_made rows numbers ≡ Some row → IsMadeAbove rows numbers row
  unfolding IsStrictlySortedBy
  next_is_above [] row up e = absurd cc
  next_is_above (x ∷ xs) row up e = some_by x xs row (greater numbers x) x.made refl refl up.0 (next_is_above xs row up.1) e

  lowest_by : (x : StaticRow) (xs : List StaticRow) (row other : StaticRow) (v w : Bool) → greater numbers x ≡ v → x.made ≡ w → AllByRecursion (λ z. index_cmp x.index z.index ≡ Less) xs → (next_made xs numbers ≡ Some row → IsMadeAbove xs numbers other → index_cmp other.index row.index ≢ Less) → next_made (x ∷ xs) numbers ≡ Some row → IsMadeAbove (x ∷ xs) numbers other → index_cmp other.index row.index ≢ Less
  lowest_by x xs row other true true e m up more f h =
      let both : Some x ≡ Some row = sym (next_here x xs e m) ∙ f in
      let is : x ≡ row = cc in
      let first : index_cmp other.index x.index ≢ Less = found_all (λ z. index_cmp z.index x.index ≢ Less) (x ∷ xs) other.index other (not_below_itself x.index, none_lower x xs up) h.there in
      subst (λ (r : StaticRow). index_cmp other.index r.index ≢ Less) is first
  lowest_by x xs row other true false e m up more f h =
      more (sym (next_unmade x xs e m) ∙ f) (narrowed x xs other (λ _ made. let bad : false ≡ true = sym m ∙ made in absurd cc) h)
  lowest_by x xs row other false w e m up more f h =
      more (sym (next_behind x xs e) ∙ f) (narrowed x xs other (λ above _. let bad : false ≡ true = sym e ∙ above in absurd cc) h)

  pub next_is_lowest : (rows : List StaticRow) (row other : StaticRow) → IsRising rows → next_made rows numbers ≡ Some row → IsMadeAbove rows numbers other → index_cmp other.index row.index ≢ Less
  unfolding IsStrictlySortedBy
  next_is_lowest [] row other up e h = absurd (let none : None ≡ Some other = h.there in cc)
  next_is_lowest (x ∷ xs) row other up e h = lowest_by x xs row other (greater numbers x) x.made refl refl up.0 (λ f g. next_is_lowest xs row other up.1 f g) e h

  none_by : (x : StaticRow) (xs : List StaticRow) (row : StaticRow) (v w : Bool) → greater numbers x ≡ v → x.made ≡ w → (next_made xs numbers ≡ None → IsMadeAbove xs numbers row → ⊥) → next_made (x ∷ xs) numbers ≡ None → IsMadeAbove (x ∷ xs) numbers row → ⊥
  none_by x xs row true true e m more f h = let bad : Some x ≡ None = sym (next_here x xs e m) ∙ f in absurd cc
  none_by x xs row true false e m more f h =
      more (sym (next_unmade x xs e m) ∙ f) (narrowed x xs row (λ _ made. let bad : false ≡ true = sym m ∙ made in absurd cc) h)
  none_by x xs row false w e m more f h =
      more (sym (next_behind x xs e) ∙ f) (narrowed x xs row (λ above _. let bad : false ≡ true = sym e ∙ above in absurd cc) h)

  pub none_is_above : (rows : List StaticRow) (row : StaticRow) → next_made rows numbers ≡ None → IsMadeAbove rows numbers row → ⊥
  none_is_above [] row e h = absurd (let none : None ≡ Some row = h.there in cc)
  none_is_above (x ∷ xs) row e h = none_by x xs row (greater numbers x) x.made refl refl (none_is_above xs row) e h
