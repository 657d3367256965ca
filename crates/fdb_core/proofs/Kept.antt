-- What keeps the rows by rising address, and young.
use Rattle.std.proofs.Common.{◌≡◌, ℕ, ◌<◌, ◌≤◌, Bool, true, false, cond, List, [], ◌∷◌, ◌++◌, map, refl, arith}
use Rattle.std.specs.Prelude.{filter, nat_lt}
use Rattle.std.specs.List.{AllByRecursion}
use Rattle.std.specs.List.Sorted.{IsStrictlySortedBy}
use Rattle.std.specs.Ordering.{is_lt, is_gt}
use Rattle.std.specs.declared.cmp.Ordering.{Ordering}
use Rattle.std.specs.declared.cmp.Ordering.TheVariants.{Less, Equal, Greater}
use Rattle.std.proofs.lemmas.Bool.{ltb-true}
use Rattle.std.proofs.lemmas.List.Kept.{IsStrictlySortedBy-filter}
use Rattle.frame_core.specs.declared.mac.Mac.{Mac}
use Rattle.fdb_core.specs.declared.row.LearnedRow.{LearnedRow}
use Rattle.fdb_core.specs.declared.row.TheConstants.{MAX_AGING_TIME}
use Rattle.fdb_core.specs.declared.learnt.Learnt.{Learnt}
use Rattle.fdb_core.specs.declared.learnt.Learnt.TheVariants.{New, Moved, Same, Full, Memory}
use Rattle.fdb_core.specs.Rows.{IsRising, IsYoung, rows_below, rows_above, older_row, young_rows}
use Rattle.frame_core.specs.Octets.{mac_cmp}
use Rattle.fdb_core.specs.Learning.{with_row, new_row, learned_rows}
use Rattle.fdb_core.proofs.Order.{below_from_above, below_trans}

-- what holds of each row holds of those that a filter keeps
pub kept_by : (P : LearnedRow → Type 0) (p : LearnedRow → Bool) (xs : List LearnedRow) → AllByRecursion P xs → AllByRecursion P (filter p xs)
kept_by P p [] h = tt
kept_by P p (x ∷ xs) h =
    let more = kept_by P p xs h.1 in
    elim (p x) as (λ b. AllByRecursion P (cond b (x ∷ filter p xs) (filter p xs))) [ true ↦ (h.0, more) | false ↦ more ]

-- and of two lists, one behind the other
pub all_joined : (P : LearnedRow → Type 0) (xs ys : List LearnedRow) → AllByRecursion P xs → AllByRecursion P ys → AllByRecursion P (xs ++ ys)
all_joined P [] ys h k = k
all_joined P (x ∷ xs) ys h k = (h.0, all_joined P xs ys h.1 k)

all_weaker : (P Q : LearnedRow → Type 0) → ((r : LearnedRow) → P r → Q r) → (xs : List LearnedRow) → AllByRecursion P xs → AllByRecursion Q xs
all_weaker P Q f [] h = tt
all_weaker P Q f (x ∷ xs) h = (f x h.0, all_weaker P Q f xs h.1)

module _ (a : Mac) where
  below_more : (x : LearnedRow) (kept : List LearnedRow) (o : Ordering) → mac_cmp x.address a ≡ o → AllByRecursion (λ s. mac_cmp s.address a ≡ Less) kept → AllByRecursion (λ s. mac_cmp s.address a ≡ Less) (cond (is_lt o) (x ∷ kept) kept)
  below_more x kept Less e h = (e, h)
  below_more x kept Equal e h = h
  below_more x kept Greater e h = h

  all_below_of : (xs : List LearnedRow) → AllByRecursion (λ s. mac_cmp s.address a ≡ Less) (rows_below xs a)
  all_below_of [] = tt
  all_below_of (x ∷ xs) = below_more x (rows_below xs a) (mac_cmp x.address a) refl (all_below_of xs)

  above_more : (x : LearnedRow) (kept : List LearnedRow) (o : Ordering) → mac_cmp x.address a ≡ o → AllByRecursion (λ s. mac_cmp a s.address ≡ Less) kept → AllByRecursion (λ s. mac_cmp a s.address ≡ Less) (cond (is_gt o) (x ∷ kept) kept)
  above_more x kept Less e h = h
  above_more x kept Equal e h = h
  above_more x kept Greater e h = (below_from_above x.address a e, h)

  all_above_of : (xs : List LearnedRow) → AllByRecursion (λ s. mac_cmp a s.address ≡ Less) (rows_above xs a)
  all_above_of [] = tt
  all_above_of (x ∷ xs) = above_more x (rows_above xs a) (mac_cmp x.address a) refl (all_above_of xs)

-- rows that end below a row, and rows that begin with it
rising_joined : (xs : List LearnedRow) (r : LearnedRow) (back : List LearnedRow) → IsRising xs → AllByRecursion (λ x. mac_cmp x.address r.address ≡ Less) xs → IsRising (r ∷ back) → IsRising (xs ++ r ∷ back)
unfolding IsStrictlySortedBy
rising_joined [] r back up below rest = rest
rising_joined (x ∷ xs) r back up below rest =
    let behind : AllByRecursion (λ s. mac_cmp x.address s.address ≡ Less) (r ∷ back) =
    (below.0, all_weaker (λ s. mac_cmp r.address s.address ≡ Less) (λ s. mac_cmp x.address s.address ≡ Less) (λ s e. below_trans x.address r.address s.address below.0 e) back rest.0) in
    (all_joined (λ s. mac_cmp x.address s.address ≡ Less) xs (r ∷ back) up.0 behind, rising_joined xs r back up.1 below.1 rest)

pub rising_with_row : (rows : List LearnedRow) (r : LearnedRow) → IsRising rows → IsRising (with_row rows r)
unfolding IsStrictlySortedBy
rising_with_row rows r up =
    rising_joined (rows_below rows r.address) r (rows_above rows r.address) (IsStrictlySortedBy-filter _ _ rows up) (all_below_of r.address rows) (all_above_of r.address rows, IsStrictlySortedBy-filter _ _ rows up)

young_with_row : (rows : List LearnedRow) (r : LearnedRow) → r.age < MAX_AGING_TIME → IsYoung rows → IsYoung (with_row rows r)
young_with_row rows r now young = all_joined _ _ _ (kept_by _ _ rows young) (now, kept_by _ _ rows young)

-- what learning leaves
pub rising_learned : (l : Learnt) (rows : List LearnedRow) (a : Mac) (port : ℕ) → IsRising rows → IsRising (learned_rows l rows a port)
rising_learned New rows a port up = rising_with_row rows (new_row a port) up
rising_learned Moved rows a port up = rising_with_row rows (new_row a port) up
rising_learned Same rows a port up = rising_with_row rows (new_row a port) up
rising_learned Full rows a port up = up
rising_learned Memory rows a port up = up

pub young_learned : (l : Learnt) (rows : List LearnedRow) (a : Mac) (port : ℕ) → IsYoung rows → IsYoung (learned_rows l rows a port)
young_learned New rows a port young = young_with_row rows (new_row a port) (omega arith) young
young_learned Moved rows a port young = young_with_row rows (new_row a port) (omega arith) young
young_learned Same rows a port young = young_with_row rows (new_row a port) (omega arith) young
young_learned Full rows a port young = young
young_learned Memory rows a port young = young

-- a second later the addresses are the same
aged_above : (x : LearnedRow) (xs : List LearnedRow) → AllByRecursion (λ s. mac_cmp x.address s.address ≡ Less) xs → AllByRecursion (λ s. mac_cmp x.address s.address ≡ Less) (map older_row xs)
aged_above x [] h = tt
aged_above x (y ∷ ys) h = (h.0, aged_above x ys h.1)

rising_aged : (rows : List LearnedRow) → IsRising rows → IsRising (map older_row rows)
unfolding IsStrictlySortedBy
rising_aged [] up = tt
rising_aged (x ∷ xs) up = (aged_above x xs up.0, rising_aged xs up.1)

pub rising_later : (limit : ℕ) (rows : List LearnedRow) → IsRising rows → IsRising (young_rows limit (map older_row rows))
rising_later limit rows up = IsStrictlySortedBy-filter _ _ (map older_row rows) (rising_aged rows up)

-- and the rows that are left are young
pub young_left : (limit : ℕ) (rows : List LearnedRow) → limit ≤ MAX_AGING_TIME → IsYoung (young_rows limit rows)
young_left limit [] most = tt
young_left limit (x ∷ xs) most = young_more (nat_lt x.age limit) refl (young_left limit xs most)
  where
    young_more : (b : Bool) → nat_lt x.age limit ≡ b → IsYoung (young_rows limit xs) → IsYoung (cond b (x ∷ young_rows limit xs) (young_rows limit xs))
    young_more true e h = (let lt = ltb-true x.age limit e in omega arith, h)
    young_more false e h = h

pub rising_none : IsRising []
unfolding IsStrictlySortedBy
rising_none = tt

pub rising_kept : (p : LearnedRow → Bool) (rows : List LearnedRow) → IsRising rows → IsRising (filter p rows)
rising_kept p rows up = IsStrictlySortedBy-filter _ p rows up
