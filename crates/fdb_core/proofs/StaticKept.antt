-- What keeps static rows by rising index.
use Rattle.std.proofs.Common.{◌≡◌, Bool, true, false, cond, List, [], ◌∷◌, ◌++◌, refl}
use Rattle.std.specs.Prelude.{filter}
use Rattle.std.specs.List.{AllByRecursion}
use Rattle.std.specs.List.Sorted.{IsStrictlySortedBy}
use Rattle.std.specs.Ordering.{is_lt, is_gt}
use Rattle.std.specs.declared.cmp.Ordering.{Ordering}
use Rattle.std.specs.declared.cmp.Ordering.TheVariants.{Less, Equal, Greater}
use Rattle.std.proofs.lemmas.List.Kept.{IsStrictlySortedBy-filter}
use Rattle.fdb_core.specs.declared.static_row.StaticIndex.{StaticIndex}
use Rattle.fdb_core.specs.declared.static_row.StaticRow.{StaticRow}
use Rattle.fdb_core.specs.Statics.{index_cmp, IsRising, rows_below, rows_above, put_row, without_row, made_rows}
use Rattle.fdb_core.proofs.StaticOrder.{below_from_above, below_trans}

-- what holds of each row holds of those that a filter keeps
pub kept_by : (P : StaticRow → Type 0) (p : StaticRow → Bool) (xs : List StaticRow) → AllByRecursion P xs → AllByRecursion P (filter p xs)
kept_by P p [] h = tt
kept_by P p (x ∷ xs) h =
    let more = kept_by P p xs h.1 in
    elim (p x) as (λ b. AllByRecursion P (cond b (x ∷ filter p xs) (filter p xs))) [ true ↦ (h.0, more) | false ↦ more ]

-- and of two lists, one behind the other
pub all_joined : (P : StaticRow → Type 0) (xs ys : List StaticRow) → AllByRecursion P xs → AllByRecursion P ys → AllByRecursion P (xs ++ ys)
all_joined P [] ys h k = k
all_joined P (x ∷ xs) ys h k = (h.0, all_joined P xs ys h.1 k)

all_weaker : (P Q : StaticRow → Type 0) → ((r : StaticRow) → P r → Q r) → (xs : List StaticRow) → AllByRecursion P xs → AllByRecursion Q xs
all_weaker P Q f [] h = tt
all_weaker P Q f (x ∷ xs) h = (f x h.0, all_weaker P Q f xs h.1)

module _ (a : StaticIndex) where
  below_more : (x : StaticRow) (kept : List StaticRow) (o : Ordering) → index_cmp x.index a ≡ o → AllByRecursion (λ s. index_cmp s.index a ≡ Less) kept → AllByRecursion (λ s. index_cmp s.index a ≡ Less) (cond (is_lt o) (x ∷ kept) kept)
  below_more x kept Less e h = (e, h)
  below_more x kept Equal e h = h
  below_more x kept Greater e h = h

  all_below_of : (xs : List StaticRow) → AllByRecursion (λ s. index_cmp s.index a ≡ Less) (rows_below xs a)
  all_below_of [] = tt
  all_below_of (x ∷ xs) = below_more x (rows_below xs a) (index_cmp x.index a) refl (all_below_of xs)

  above_more : (x : StaticRow) (kept : List StaticRow) (o : Ordering) → index_cmp x.index a ≡ o → AllByRecursion (λ s. index_cmp a s.index ≡ Less) kept → AllByRecursion (λ s. index_cmp a s.index ≡ Less) (cond (is_gt o) (x ∷ kept) kept)
  above_more x kept Less e h = h
  above_more x kept Equal e h = h
  above_more x kept Greater e h = (below_from_above x.index a e, h)

  all_above_of : (xs : List StaticRow) → AllByRecursion (λ s. index_cmp a s.index ≡ Less) (rows_above xs a)
  all_above_of [] = tt
  all_above_of (x ∷ xs) = above_more x (rows_above xs a) (index_cmp x.index a) refl (all_above_of xs)

-- rows that end below a row, and rows that begin with it
rising_joined : (xs : List StaticRow) (r : StaticRow) (back : List StaticRow) → IsRising xs → AllByRecursion (λ x. index_cmp x.index r.index ≡ Less) xs → IsRising (r ∷ back) → IsRising (xs ++ r ∷ back)
unfolding IsStrictlySortedBy
rising_joined [] r back up below rest = rest
rising_joined (x ∷ xs) r back up below rest =
    let behind : AllByRecursion (λ s. index_cmp x.index s.index ≡ Less) (r ∷ back) =
    (below.0, all_weaker (λ s. index_cmp r.index s.index ≡ Less) (λ s. index_cmp x.index s.index ≡ Less) (λ s e. below_trans x.index r.index s.index below.0 e) back rest.0) in
    (all_joined (λ s. index_cmp x.index s.index ≡ Less) xs (r ∷ back) up.0 behind, rising_joined xs r back up.1 below.1 rest)

pub rising_put : (rows : List StaticRow) (r : StaticRow) → IsRising rows → IsRising (put_row rows r)
unfolding IsStrictlySortedBy
rising_put rows r up =
    rising_joined (rows_below rows r.index) r (rows_above rows r.index) (IsStrictlySortedBy-filter _ _ rows up) (all_below_of r.index rows) (all_above_of r.index rows, IsStrictlySortedBy-filter _ _ rows up)

-- rows below an index, and rows above it
rising_apart : (a : StaticIndex) (xs ys : List StaticRow) → IsRising xs → AllByRecursion (λ x. index_cmp x.index a ≡ Less) xs → AllByRecursion (λ y. index_cmp a y.index ≡ Less) ys → IsRising ys → IsRising (xs ++ ys)
unfolding IsStrictlySortedBy
rising_apart a [] ys up below above vp = vp
rising_apart a (x ∷ xs) ys up below above vp =
    let behind : AllByRecursion (λ s. index_cmp x.index s.index ≡ Less) ys =
    all_weaker (λ s. index_cmp a s.index ≡ Less) (λ s. index_cmp x.index s.index ≡ Less) (λ s e. below_trans x.index a s.index below.0 e) ys above in
    (all_joined (λ s. index_cmp x.index s.index ≡ Less) xs ys up.0 behind, rising_apart a xs ys up.1 below.1 above vp)

pub rising_without : (rows : List StaticRow) (a : StaticIndex) → IsRising rows → IsRising (without_row rows a)
rising_without rows a up =
    rising_apart a (rows_below rows a) (rows_above rows a) (IsStrictlySortedBy-filter _ _ rows up) (all_below_of a rows) (all_above_of a rows) (IsStrictlySortedBy-filter _ _ rows up)

pub rising_made : (rows : List StaticRow) → IsRising rows → IsRising (made_rows rows)
rising_made rows up = IsStrictlySortedBy-filter _ _ rows up

made_more : (b : Bool) (x : StaticRow) (xs : List StaticRow) → x.made ≡ b → AllByRecursion (λ r. r.made ≡ true) xs → AllByRecursion (λ r. r.made ≡ true) (cond b (x ∷ xs) xs)
made_more true x xs e h = (e, h)
made_more false x xs e h = h

pub all_made : (rows : List StaticRow) → AllByRecursion (λ r. r.made ≡ true) (made_rows rows)
all_made [] = tt
all_made (x ∷ xs) = made_more x.made x (made_rows xs) refl (all_made xs)

pub rising_none : IsRising []
unfolding IsStrictlySortedBy
rising_none = tt
