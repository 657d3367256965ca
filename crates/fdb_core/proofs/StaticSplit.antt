-- Static rows by rising index, split at an index.
use Rattle.std.proofs.Common.{◌≡◌, ℕ, ◌+◌, ◌<◌, ◌≤◌, List, [], ◌∷◌, ◌++◌, length, get_or, set, take, drop, Some, None, Result, Ok, Err, IfOk, IfErr, refl, sym, ap, ap₂, ◌∙◌, arith, append-nil, add-one}
use Rattle.std.specs.List.{AllByRecursion, AllWithin, HoldsAt, insert, remove}
use Rattle.std.specs.List.Sorted.{IsPartitionPoint, IsSearchInRange, IsBinarySearchResult, IsNonDecreasingBy}
use Rattle.std.specs.Ordering.{is_lt, ordering_index}
use Rattle.std.specs.declared.cmp.Ordering.TheVariants.{Less, Equal, Greater}
use Rattle.std.proofs.lemmas.Cmp.{nat_list_cmp_total}
use Rattle.std.proofs.lemmas.Map.Keys.{Less-from_sorted}
use Rattle.std.proofs.lemmas.List.{take-append-drop, get_or-take, get_or-drop, length-take-le, length-drop, drop_more, set_split}
use Rattle.std.proofs.lemmas.List.Elements.{recursion_from_All}
use Rattle.std.proofs.lemmas.List.Sorted.{searchable_from_sorted}
use Rattle.fdb_core.specs.declared.static_row.StaticIndex.{StaticIndex}
use Rattle.fdb_core.specs.declared.static_row.StaticRow.{StaticRow}
use Rattle.fdb_core.specs.Statics.{numbers_of, index_cmp, IsRising, rows_below, rows_above, row_of, put_row, without_row}
use Rattle.fdb_core.specs.StaticPlaces.{IsRowAt, IsGapAt}
use Rattle.fdb_core.proofs.StaticOrder.{above_from_below, same_right}

module _ (rows : List StaticRow) (rising : IsRising rows) where
  pub below_later : (i j : ℕ) (d : StaticRow) → i < j → j < length rows → index_cmp (get_or rows i d).index (get_or rows j d).index ≡ Less
  below_later i j d lt within = Less-from_sorted (λ r s. index_cmp r.index s.index) rows i j d rising lt within

  -- rows by rising index are sorted as a binary search asks
  pub searchable : (a : StaticIndex) → IsNonDecreasingBy (λ r. ordering_index (index_cmp r.index a)) rows
  searchable a = searchable_from_sorted nat_list_cmp_total (λ r. numbers_of r.index) rows (numbers_of a) (λ k d _ within. ap is_lt (above_from_below (get_or rows k d).index (get_or rows (k + 1) d).index (below_later k (k + 1) d (omega arith) within)))

module _ (a : StaticIndex) where
  -- rows of lower addresses in front stand in front of what is below, and are no others
  pub record Fronts (xs ys : List StaticRow) : Type 0 where
    pub below : rows_below (xs ++ ys) a ≡ xs ++ rows_below ys a
    pub above : rows_above (xs ++ ys) a ≡ rows_above ys a
    pub row : row_of (xs ++ ys) a ≡ row_of ys a

  pub fronts : (xs ys : List StaticRow) → AllByRecursion (λ r. index_cmp r.index a ≡ Less) xs → Fronts xs ys
  fronts [] ys h = record { below = refl; above = refl; row = refl }
  fronts (r ∷ rs) ys h =
      let more = fronts rs ys h.1 in
      record {
        below = rw h.0 (ap (λ l. r ∷ l) more.below);
        above = rw h.0 more.above;
        row = rw h.0 more.row;
      }

  -- rows of higher addresses
  pub record AllAbove (ys : List StaticRow) : Type 0 where
    pub below : rows_below ys a ≡ []
    pub above : rows_above ys a ≡ ys
    pub row : row_of ys a ≡ None

  pub all_above : (ys : List StaticRow) → AllByRecursion (λ r. index_cmp r.index a ≡ Greater) ys → AllAbove ys
  all_above [] h = record { below = refl; above = refl; row = refl }
  all_above (r ∷ rs) h =
      let more = all_above rs h.1 in
      record {
        below = rw h.0 more.below;
        above = rw h.0 (ap (λ l. r ∷ l) more.above);
        row = rw h.0 more.row;
      }

  -- those from a place on, and those before it
  before_place : (rows : List StaticRow) (i : ℕ) → i ≤ length rows → AllWithin (λ r. index_cmp r.index a ≡ Less) rows 0 i → AllByRecursion (λ r. index_cmp r.index a ≡ Less) (take i rows)
  before_place rows i within h =
      recursion_from_All _ (take i rows) (λ k d lt.
      let short : k < i = omega (arith, length-take-le i rows within) in
      rw (get_or-take i rows k d short) (h k d (omega arith) short))

  from_place : (rows : List StaticRow) (i : ℕ) → AllWithin (λ r. index_cmp r.index a ≡ Greater) rows i (length rows) → AllByRecursion (λ r. index_cmp r.index a ≡ Greater) (drop i rows)
  from_place rows i h =
      recursion_from_All _ (drop i rows) (λ k d lt.
      let short : i + k < length rows = omega (arith, length-drop i rows) in
      rw (get_or-drop i rows k d) (h (i + k) d (omega arith) short))

  pub gap : (rows : List StaticRow) (i : ℕ) → i ≤ length rows → IsPartitionPoint (λ r. index_cmp r.index a ≡ Less) (λ r. index_cmp r.index a ≡ Greater) rows i → IsGapAt rows a i
  gap rows i within parted =
      let front = fronts (take i rows) (drop i rows) (before_place rows i within parted.0) in
      let back = all_above (drop i rows) (from_place rows i parted.1) in
      let whole = take-append-drop i rows in
      record {
        within = within;
        row = ap (λ l. row_of l a) (sym whole) ∙ front.row ∙ back.row;
        before = sym (ap (λ l. rows_below l a) (sym whole) ∙ front.below ∙ ap (λ l. take i rows ++ l) back.below ∙ append-nil _);
        behind = sym (ap (λ l. rows_above l a) (sym whole) ∙ front.above ∙ back.above);
      }

  -- at a row of the address
  module _ (rows : List StaticRow) (rising : IsRising rows) (i : ℕ) (within : i < length rows) (equal : HoldsAt (λ r. index_cmp r.index a ≡ Equal) rows i) where
    low : AllWithin (λ r. index_cmp r.index a ≡ Less) rows 0 i
    low k d _ lt = sym (same_right (get_or rows i d).index a (get_or rows k d).index (equal d)) ∙ below_later rows rising k i d lt within

    high : AllWithin (λ r. index_cmp r.index a ≡ Greater) rows (i + 1) (length rows)
    high k d le lt = sym (same_right (get_or rows i d).index a (get_or rows k d).index (equal d)) ∙ above_from_below (get_or rows i d).index (get_or rows k d).index (below_later rows rising i k d (omega arith) lt)

    front : Fronts (take i rows) (drop i rows)
    front = fronts (take i rows) (drop i rows) (before_place rows i (omega arith) low)

    back : AllAbove (drop (i + 1) rows)
    back = all_above (drop (i + 1) rows) (from_place rows (i + 1) high)

    here : (d : StaticRow) → drop i rows ≡ get_or rows i d ∷ drop (i + 1) rows
    here d = drop_more rows i d within

    -- the row itself is in neither part
    below_here : (r : StaticRow) (rest : List StaticRow) → index_cmp r.index a ≡ Equal → rows_below (r ∷ rest) a ≡ rows_below rest a
    below_here r rest e = rw e refl

    above_here : (r : StaticRow) (rest : List StaticRow) → index_cmp r.index a ≡ Equal → rows_above (r ∷ rest) a ≡ rows_above rest a
    above_here r rest e = rw e refl

    -- and is the one that is found
    found_here : (r : StaticRow) (rest : List StaticRow) → index_cmp r.index a ≡ Equal → row_of (r ∷ rest) a ≡ Some r
    found_here r rest e = rw e refl

    pub hit : (d : StaticRow) → IsRowAt rows a i
    hit d =
        let whole = take-append-drop i rows in
        let none_below = ap (λ l. rows_below l a) (here d) ∙ below_here _ _ (equal d) ∙ back.below in
        let rest_above = ap (λ l. rows_above l a) (here d) ∙ above_here _ _ (equal d) ∙ back.above in
        record {
          within = within;
          row = λ e. ap (λ l. row_of l a) (sym whole) ∙ front.row ∙ ap (λ l. row_of l a) (here e) ∙ found_here _ _ (equal e);
          before = sym (ap (λ l. rows_below l a) (sym whole) ∙ front.below ∙ ap (λ l. take i rows ++ l) none_below ∙ append-nil _);
          behind = sym (ap (λ l. rows_above l a) (sym whole) ∙ front.above ∙ rest_above);
        }

-- what a binary search by address finds
pub placed : (rows : List StaticRow) → IsRising rows → (a : StaticIndex) (r : Result ℕ ℕ) → IsSearchInRange r (length rows) → IsBinarySearchResult (λ y. index_cmp y.index a) rows r → record { found : IfOk r (IsRowAt rows a); absent : IfErr r (IsGapAt rows a) }
placed [] rising a (Ok i) within equal = absurd (omega arith)
placed (row ∷ rows) rising a (Ok i) within equal = record { found = hit a (row ∷ rows) rising i within equal row; absent = tt }
placed rows rising a (Err i) within parted = record { found = tt; absent = gap a rows i within (parted (searchable rows rising a)) }

-- a new row in its place
pub inserted : (rows : List StaticRow) (i : ℕ) (row : StaticRow) → IsGapAt rows row.index i → insert rows i row ≡ put_row rows row
inserted rows i row at = ap₂ (λ l m. l ++ row ∷ m) at.before at.behind

-- a row in place of the one with its address
pub replaced : (rows : List StaticRow) (i : ℕ) (row : StaticRow) → IsRowAt rows row.index i → set rows i row ≡ put_row rows row
replaced rows i row at = set_split rows i row at.within ∙ ap₂ (λ l m. l ++ row ∷ m) at.before (ap (λ k. drop k rows) (sym (add-one i)) ∙ at.behind)

-- and without the one of this index
pub removed : (rows : List StaticRow) (i : ℕ) (a : StaticIndex) → IsRowAt rows a i → remove rows i ≡ without_row rows a
removed rows i a at = ap₂ (λ l m. l ++ m) at.before (ap (λ k. drop k rows) (sym (add-one i)) ∙ at.behind)

pub absent : (rows : List StaticRow) (i : ℕ) (a : StaticIndex) → IsGapAt rows a i → rows ≡ without_row rows a
absent rows i a at = sym (take-append-drop i rows) ∙ ap₂ (λ l m. l ++ m) at.before at.behind
