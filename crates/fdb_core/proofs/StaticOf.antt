-- The static rows of one address.
use Rattle.std.proofs.Common.{◌≡◌, ℕ, ◌-◌, ◌<◌, ◌≤◌, zero, suc, Bool, true, false, cond, not, ◌&&◌, List, [], ◌∷◌, ◌++◌, length, get_or, take, drop, refl, sym, ap, ◌∙◌, arith}
use Rattle.std.specs.Prelude.{filter, find, ◌==◌, Option, Some}
use Rattle.std.specs.List.{AllByRecursion}
use Rattle.std.specs.List.Sorted.{IsStrictlySortedBy, IsPartitionPoint}
use Rattle.std.specs.Cmp.Lexicographic.{slice_cmp}
use Rattle.std.specs.Ordering.{nat_cmp, ordering_then, is_lt, is_eq, is_gt}
use Rattle.std.specs.Str.{bytes_eq}
use Rattle.std.specs.declared.cmp.Ordering.{Ordering}
use Rattle.std.specs.declared.cmp.Ordering.TheVariants.{Less, Equal, Greater}
use Rattle.std.proofs.lemmas.List.{take_all, length-drop}
use Rattle.std.proofs.lemmas.Map.Lookups.{exact_bytes}
use Rattle.std.proofs.lemmas.Map.Text.{is_eq-slice_cmp}
use Rattle.frame_core.specs.declared.mac.Mac.{Mac}
use Rattle.frame_core.specs.Octets.{mac_cmp, same_mac}
use Rattle.fdb_core.specs.declared.static_row.StaticIndex.{StaticIndex}
use Rattle.fdb_core.specs.declared.static_row.StaticRow.{StaticRow}
use Rattle.fdb_core.specs.StaticPlaces.{is_from}
use Rattle.fdb_core.specs.Statics.{numbers_of, index_cmp, IsRising, row_of, rows_of}
use Rattle.fdb_core.proofs.StaticWalk.{greater_from}

then_equal : (o : Ordering) → ordering_then o Equal ≡ o
then_equal Less = refl
then_equal Equal = refl
then_equal Greater = refl

then_more : (o r s t : Ordering) → r ≡ ordering_then s t → ordering_then o r ≡ ordering_then (ordering_then o s) t
then_more Less r s t e = refl
then_more Equal r s t e = e
then_more Greater r s t e = refl

-- a number behind two lists of one length decides where the lists do not
behind_both : (xs ys : List ℕ) (p q : ℕ) → length xs ≡ length ys → slice_cmp nat_cmp (xs ++ p ∷ []) (ys ++ q ∷ []) ≡ ordering_then (slice_cmp nat_cmp xs ys) (nat_cmp p q)
behind_both [] [] p q e = then_equal (nat_cmp p q)
behind_both [] (y ∷ ys) p q e = absurd (omega arith)
behind_both (x ∷ xs) [] p q e = absurd (omega arith)
behind_both (x ∷ xs) (y ∷ ys) p q e =
    then_more (nat_cmp x y) (slice_cmp nat_cmp (xs ++ p ∷ []) (ys ++ q ∷ [])) (slice_cmp nat_cmp xs ys) (nat_cmp p q) (behind_both xs ys p q (omega arith))

behind_one : (xs ys : List ℕ) (p : ℕ) → length xs ≡ length ys → slice_cmp nat_cmp (xs ++ p ∷ []) ys ≡ ordering_then (slice_cmp nat_cmp xs ys) Greater
behind_one [] [] p e = refl
behind_one [] (y ∷ ys) p e = absurd (omega arith)
behind_one (x ∷ xs) [] p e = absurd (omega arith)
behind_one (x ∷ xs) (y ∷ ys) p e =
    then_more (nat_cmp x y) (slice_cmp nat_cmp (xs ++ p ∷ []) ys) (slice_cmp nat_cmp xs ys) Greater (behind_one xs ys p (omega arith))

is_from_not : (o : Ordering) → is_lt o ≡ not (is_gt (ordering_then o Greater))
is_from_not Less = refl
is_from_not Equal = refl
is_from_not Greater = refl

-- an index is before those of an address where its own address is below
pub before_by : (i : StaticIndex) (d : Mac) → length i.address.0 ≡ length d.0 → is_lt (mac_cmp i.address d) ≡ not (is_from d i)
before_by i d e = is_from_not (mac_cmp i.address d) ∙ ap (λ (o : Ordering). not (is_gt o)) (sym (behind_one i.address.0 d.0 i.port e))

-- an address that is no other's, and not below it, is above it
above_it : (o : Ordering) → is_gt (ordering_then o Greater) ≡ true → is_eq o ≡ false → o ≡ Greater
above_it Less g n = absurd cc
above_it Equal g n = absurd cc
above_it Greater g n = refl

-- what stands where there is no row
abbrev pub no_row : StaticRow
no_row = record { index = record { address = record { 0 = [] }; port = 0 }; made = false; ports = record { 0 = [] } }

-- so no row behind it is of that address
module _ (d : Mac) where
  not_behind : (i z : StaticIndex) (v : Bool) → same_mac z.address d ≡ v → length i.address.0 ≡ length d.0 → mac_cmp i.address d ≡ Greater → index_cmp i z ≡ Less → v ≡ false
  not_behind i z false s e g l = refl
  not_behind i z true s e g l =
      let equal : slice_cmp nat_cmp z.address.0 d.0 ≡ Equal = equal_by (slice_cmp nat_cmp z.address.0 d.0) (is_eq-slice_cmp z.address.0 d.0 ∙ s) in
      let same : z.address.0 ≡ d.0 = exact_bytes z.address.0 d.0 equal in
      let long : length i.address.0 ≡ length z.address.0 = e ∙ ap length (sym same) in
      let above : slice_cmp nat_cmp i.address.0 z.address.0 ≡ Greater = ap (λ (xs : List ℕ). slice_cmp nat_cmp i.address.0 xs) same ∙ g in
      let high : index_cmp i z ≡ Greater = behind_both i.address.0 z.address.0 i.port z.port long ∙ ap (λ (o : Ordering). ordering_then o (nat_cmp i.port z.port)) above in
      absurd cc
    where
      equal_by : (o : Ordering) → is_eq o ≡ true → o ≡ Equal
      equal_by Less h = absurd cc
      equal_by Equal h = refl
      equal_by Greater h = absurd cc

  dropped : (z : StaticRow) (kept : List StaticRow) (v : Bool) → v ≡ false → kept ≡ [] → cond v (z ∷ kept) kept ≡ []
  dropped z kept v e f = rw e f

  none_of : (i : StaticIndex) → length i.address.0 ≡ length d.0 → mac_cmp i.address d ≡ Greater → (xs : List StaticRow) → AllByRecursion (λ z. index_cmp i z.index ≡ Less) xs → rows_of xs d ≡ []
  none_of i e g [] h = refl
  none_of i e g (z ∷ zs) h =
      dropped z (rows_of zs d) (same_mac z.index.address d) (not_behind i z.index (same_mac z.index.address d) refl e g h.0) (none_of i e g zs h.1)

  above_by : (i : StaticIndex) → is_from d i ≡ true → length i.address.0 ≡ length d.0 → is_eq (mac_cmp i.address d) ≡ false → mac_cmp i.address d ≡ Greater
  above_by i f e n = above_it (mac_cmp i.address d) (ap is_gt (sym (behind_one i.address.0 d.0 i.port e)) ∙ f) n

  -- the rows in front that are of the address are all, where the one behind them is not
  pub of_front : (xs : List StaticRow) (n : ℕ) → IsRising xs → AllByRecursion (λ r. is_from d r.index ≡ true) xs
      → ((k : ℕ) → k < n → same_mac (get_or xs k no_row).index.address d ≡ true)
      → (n < length xs → (length (get_or xs n no_row).index.address.0 ≡ length d.0) × (same_mac (get_or xs n no_row).index.address d ≡ false))
      → take n xs ≡ rows_of xs d
  unfolding IsStrictlySortedBy
  of_front [] zero up from front stop = refl
  of_front [] (suc n) up from front stop = refl
  of_front (x ∷ xs) zero up from front stop =
      let here = stop (omega arith) in
      let above : mac_cmp x.index.address d ≡ Greater = above_by x.index from.0 here.0 (is_eq-slice_cmp x.index.address.0 d.0 ∙ here.1) in
      sym (dropped x (rows_of xs d) (same_mac x.index.address d) here.1 (none_of x.index here.0 above xs up.0))
  of_front (x ∷ xs) (suc n) up from front stop =
      let same : same_mac x.index.address d ≡ true = front 0 (omega arith) in
      let more : take n xs ≡ rows_of xs d = of_front xs n up.1 from.1 (λ k lt. front (suc k) (omega arith)) (λ lt. stop (omega arith)) in
      ap (λ l. x ∷ l) more ∙ sym (kept same)
    where
      kept : same_mac x.index.address d ≡ true → rows_of (x ∷ xs) d ≡ x ∷ rows_of xs d
      kept e = rw e refl

-- rows of an address are among those from it on
module _ (d : Mac) where
  same_is_from : (i : StaticIndex) → same_mac i.address d ≡ true → is_from d i ≡ true
  same_is_from i s =
      let equal : slice_cmp nat_cmp i.address.0 d.0 ≡ Equal = equal_by (slice_cmp nat_cmp i.address.0 d.0) (is_eq-slice_cmp i.address.0 d.0 ∙ s) in
      let same : i.address.0 ≡ d.0 = exact_bytes i.address.0 d.0 equal in
      ap is_gt (behind_one i.address.0 d.0 i.port (ap length same) ∙ ap (λ (o : Ordering). ordering_then o Greater) equal)
    where
      equal_by : (o : Ordering) → is_eq o ≡ true → o ≡ Equal
      equal_by Less h = absurd cc
      equal_by Equal h = refl
      equal_by Greater h = absurd cc

  from_step : (x : StaticRow) (all some : List StaticRow) (v : Bool) (w : Bool) → same_mac x.index.address d ≡ v → (v ≡ true → w ≡ true) → rows_of all d ≡ rows_of some d → cond v (x ∷ rows_of all d) (rows_of all d) ≡ rows_of (cond w (x ∷ some) some) d
  from_step x all some true true s h e = let kept : rows_of (x ∷ some) d ≡ x ∷ rows_of some d = rw s refl in ap (λ l. x ∷ l) e ∙ sym kept
  from_step x all some true false s h e = let bad : false ≡ true = h refl in absurd cc
  from_step x all some false true s h e = let gone : rows_of (x ∷ some) d ≡ rows_of some d = rw s refl in e ∙ sym gone
  from_step x all some false false s h e = e

  pub of_those_from : (rows : List StaticRow) → rows_of rows d ≡ rows_of (filter (λ r. is_from d r.index) rows) d
  of_those_from [] = refl
  of_those_from (x ∷ xs) = from_step x xs (filter (λ r. is_from d r.index) xs) (same_mac x.index.address d) (is_from d x.index) refl (same_is_from x.index) (of_those_from xs)

-- the row of a port among those of an address is that of both
both_equal : (xs ys : List ℕ) (p q : ℕ) → bytes_eq (xs ++ p ∷ []) (ys ++ q ∷ []) ≡ bytes_eq xs ys && (p == q)
both_equal [] [] p q = and_true (p == q)
  where
    and_true : (b : Bool) → b && true ≡ b
    and_true true = refl
    and_true false = refl
both_equal [] (y ∷ []) p q = and_false (p == y)
  where
    and_false : (b : Bool) → b && false ≡ false
    and_false true = refl
    and_false false = refl
both_equal [] (y ∷ z ∷ ys) p q = and_false (p == y)
  where
    and_false : (b : Bool) → b && false ≡ false
    and_false true = refl
    and_false false = refl
both_equal (x ∷ []) [] p q = and_false (x == q)
  where
    and_false : (b : Bool) → b && false ≡ false
    and_false true = refl
    and_false false = refl
both_equal (x ∷ z ∷ xs) [] p q = and_false (x == q)
  where
    and_false : (b : Bool) → b && false ≡ false
    and_false true = refl
    and_false false = refl
both_equal (x ∷ xs) (y ∷ ys) p q = and_step (x == y) (bytes_eq (xs ++ p ∷ []) (ys ++ q ∷ [])) (bytes_eq xs ys) (p == q) (both_equal xs ys p q)
  where
    and_step : (b r s t : Bool) → r ≡ s && t → b && r ≡ (b && s) && t
    and_step true r s t e = e
    and_step false r s t e = refl

at_both : (r : StaticRow) (d : Mac) (port : ℕ) → is_eq (index_cmp r.index (record { address = d; port = port })) ≡ same_mac r.index.address d && (r.index.port == port)
at_both r d port = is_eq-slice_cmp (numbers_of r.index) (d.0 ++ port ∷ []) ∙ both_equal r.index.address.0 d.0 r.index.port port

port_step : (x : StaticRow) (port : ℕ) (some : List StaticRow) (found : Option StaticRow) (v : Bool) → find (λ r. r.index.port == port) some ≡ found → find (λ r. r.index.port == port) (cond v (x ∷ some) some) ≡ cond (v && (x.index.port == port)) (Some x) found
port_step x port some found true e = ap (λ (o : Option StaticRow). cond (x.index.port == port) (Some x) o) e
port_step x port some found false e = e

pub of_port : (rows : List StaticRow) (d : Mac) (port : ℕ) → find (λ r. r.index.port == port) (rows_of rows d) ≡ row_of rows (record { address = d; port = port })
of_port [] d port = refl
of_port (x ∷ xs) d port =
    port_step x port (rows_of xs d) (row_of xs (record { address = d; port = port })) (same_mac x.index.address d) (of_port xs d port)
    ∙ ap (λ (b : Bool). cond b (Some x) (row_of xs (record { address = d; port = port }))) (sym (at_both x d port))

-- those from an address on are of it or behind it
all_step : (d : Mac) (x : StaticRow) (kept : List StaticRow) (v : Bool) → is_from d x.index ≡ v → AllByRecursion (λ r. is_from d r.index ≡ true) kept → AllByRecursion (λ r. is_from d r.index ≡ true) (cond v (x ∷ kept) kept)
all_step d x kept true e h = (e, h)
all_step d x kept false e h = h

pub all_from : (d : Mac) (rows : List StaticRow) → AllByRecursion (λ r. is_from d r.index ≡ true) (filter (λ r. is_from d r.index) rows)
all_from d [] = tt
all_from d (x ∷ xs) = all_step d x (filter (λ r. is_from d r.index) xs) (is_from d x.index) refl (all_from d xs)

-- and stand behind the point
pub those_from : (d : Mac) (rows : List StaticRow) (from : ℕ) → from ≤ length rows → IsPartitionPoint (λ r. not (is_from d r.index) ≡ true) (λ r. not (is_from d r.index) ≡ false) rows from → take (length rows - from) (drop from rows) ≡ filter (λ r. is_from d r.index) rows
those_from d rows from le point =
    take_all (length rows - from) (drop from rows) (omega (arith, length-drop from rows)) ∙ sym (greater_from d.0 rows from le point)
