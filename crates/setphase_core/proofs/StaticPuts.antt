-- Static rows to which another is put, as settings see it: what is made of each index, and which
-- ports are allowed to it.
use Rattle.std.proofs.Common.{◌≡◌, ◌≢◌, ℕ, suc, ◌+◌, ◌-◌, ◌<◌, ◌≤◌, Bool, true, false, not, ◌||◌, cond, List, [], ◌∷◌, length, get_or, take, map, Option, Some, None, refl, sym, ap, subst, ◌∙◌, arith, length-append}
use Rattle.std.specs.Prelude.{nat_lt}
use Rattle.std.specs.List.{range_with_len}
use Rattle.std.specs.Ordering.{is_lt, is_eq, is_gt}
use Rattle.std.specs.declared.cmp.Ordering.{Ordering}
use Rattle.std.specs.declared.cmp.Ordering.TheVariants.{Less, Equal, Greater}
use Rattle.std.proofs.lemmas.Bool.Decides.{Decides-ltb}
use Rattle.std.proofs.lemmas.Cmp.{tied_itself, nat_list_cmp_total}
use Rattle.std.proofs.lemmas.List.{ext_get_or, get_or-take, get_or_default, length-take}
use Rattle.std.proofs.lemmas.List.FromFn.{length-map-range_with_len, get_or-map-range_with_len}
use Rattle.std.proofs.lemmas.List.Sums.{AllPass-from_list_all, list_all-from_AllPass}
use Rattle.fdb_core.specs.declared.port_set.PortSet.{PortSet}
use Rattle.fdb_core.specs.declared.static_row.StaticIndex.{StaticIndex}
use Rattle.fdb_core.specs.declared.static_row.StaticRow.{StaticRow}
use Rattle.fdb_core.specs.PortSets.{first_ports, has_all, IsOfPorts}
use Rattle.fdb_core.specs.Statics.{numbers_of, index_cmp, IsRising, rows_below, rows_above, row_of, put_row, without_row}
use Rattle.fdb_core.proofs.StaticOrder.{same_index as index_is}
use Rattle.fdb_core.proofs.StaticFound.{its_own, others_keep, none_left, others_left, found_index, same_tables}
use Rattle.fdb_core.proofs.StaticKept.{rising_put, rising_without}
use Rattle.bridge_core.specs.Statics.{is_made_in, ports_of, says, rows_with, IsStaticRow, AreStaticRows}
use Rattle.bridge_core.proofs.StaticKept.{allowed_ports}
use Rattle.setphase_core.specs.Settings.{same_index}

-- ---- indexes

is_equal : (o : Ordering) → is_eq o ≡ true → o ≡ Equal
is_equal Less h = absurd cc
is_equal Equal h = refl
is_equal Greater h = absurd cc

pub index-exact : (i j : StaticIndex) → same_index i j ≡ true → i ≡ j
index-exact i j e = index_is i j (is_equal (index_cmp i j) e)

pub index-itself : (i : StaticIndex) → same_index i i ≡ true
index-itself i = ap is_eq (tied_itself nat_list_cmp_total (numbers_of i))

pub index-other : (i j : StaticIndex) → same_index i j ≡ false → i ≢ j
index-other i j e same =
    let t : same_index i j ≡ true = subst (λ k. same_index i k ≡ true) same (index-itself i) in
    absurd cc

-- ---- sets of ports

-- each port is in the set that has all
pub bit_on : (n k : ℕ) (s : PortSet) → has_all n s ≡ true → k < n → k < length s.0 → get_or s.0 k false ≡ true
bit_on n k s all low within =
    let passes = AllPass-from_list_all (λ present. present) (take n s.0) all in
    sym (get_or-take n s.0 k false low) ∙ passes k false (omega (arith, low, within, length-take n s.0))

bit_of : (n k : ℕ) (s : PortSet) (v : Bool) → nat_lt k n ≡ v → IsOfPorts n s → has_all n s ≡ true → k < 32 → get_or s.0 k false ≡ nat_lt k n
bit_of n k s true e ports all h =
    let low : k < n = (Decides-ltb k n).0 e in
    bit_on n k s all low (omega (arith, ports.size)) ∙ sym e
bit_of n k s false e ports all h =
    let high : n < k + 1 = (let no : k < n → ⊥ = λ b. let t : nat_lt k n ≡ true = (Decides-ltb k n).1 b in absurd cc in omega arith) in
    let back : k + 1 - 1 ≡ k = omega arith in
    sym (ap (λ j. get_or s.0 j false) back) ∙ ports.within (k + 1) high ∙ sym e

-- a set of a bridge's ports that has all is that of the first ports
pub all_ports : (n : ℕ) (s : PortSet) → IsOfPorts n s → has_all n s ≡ true → first_ports n ≡ s
all_ports n s ports all =
    let of : List Bool → PortSet = λ bits. record { 0 = bits } in
    let long = length-map-range_with_len (λ k. nat_lt k n) 0 32 in
    ap of (ext_get_or false (map (λ k. nat_lt k n) (range_with_len 0 32)) s.0 (long ∙ sym ports.size) (λ k h.
    let low : k < 32 = omega (arith, h, long) in
    get_or-map-range_with_len (λ j. nat_lt j n) 0 32 k k false low (omega arith) ∙ sym (bit_of n k s (nat_lt k n) refl ports all low)))

-- the first ports have all
first_bit : (n k : ℕ) (v : Bool) → nat_lt k 32 ≡ v → k < length (take n (first_ports n).0) → k < n → get_or (take n (first_ports n).0) k false ≡ true
first_bit n k v e within low =
    let long = length-map-range_with_len (λ j. nat_lt j n) 0 32 in
    let below : k < 32 = omega (arith, within, long, length-take n (first_ports n).0) in
    let is : nat_lt k n ≡ true = (Decides-ltb k n).1 low in
    get_or-take n (first_ports n).0 k false low ∙ get_or-map-range_with_len (λ j. nat_lt j n) 0 32 k k false below (omega arith) ∙ is

pub first_have_all : (n : ℕ) → has_all n (first_ports n) ≡ true
first_have_all n =
    list_all-from_AllPass (λ present. present) (take n (first_ports n).0) (λ k d within.
    let low : k < n = omega (arith, within, length-take n (first_ports n).0) in
    get_or_default (take n (first_ports n).0) k d false within ∙ first_bit n k (nat_lt k 32) refl within low)

-- ---- what stands at an index once a row was put

or_parts : (a b : Bool) → (a || b) ≡ false → (a ≡ false) × (b ≡ false)
or_parts true b e = absurd cc
or_parts false b e = (refl, e)

not_back : (b : Bool) → not b ≡ false → b ≡ true
not_back true e = refl
not_back false e = absurd cc

module _ (n : ℕ) where
  -- the row that is there, as the two settings of its index say it
  abbrev pub row_at : List StaticRow → StaticIndex → StaticRow
  row_at rows i = record { index = i; made = is_made_in (row_of rows i); ports = ports_of n (row_of rows i) }

  -- what a row leaves at its index
  abbrev pub left_by : StaticRow → Option StaticRow
  left_by row = cond (says n row.made row.ports) (Some row) None

  own_by : (row : StaticRow) (rows : List StaticRow) (v : Bool) → row_of (cond v (put_row rows row) (without_row rows row.index)) row.index ≡ cond v (Some row) None
  own_by row rows true = its_own rows row
  own_by row rows false = none_left rows row.index

  pub own_after : (row : StaticRow) (rows : List StaticRow) → row_of (rows_with n row rows) row.index ≡ left_by row
  own_after row rows = own_by row rows (says n row.made row.ports)

  other_by : (row : StaticRow) (rows : List StaticRow) (j : StaticIndex) (v : Bool) → j ≢ row.index → row_of (cond v (put_row rows row) (without_row rows row.index)) j ≡ row_of rows j
  other_by row rows j true ne = others_keep rows row j ne
  other_by row rows j false ne = others_left rows row.index j ne

  pub other_after : (row : StaticRow) (rows : List StaticRow) (j : StaticIndex) → j ≢ row.index → row_of (rows_with n row rows) j ≡ row_of rows j
  other_after row rows j ne = other_by row rows j (says n row.made row.ports) ne

  -- at each index
  after_by : (row : StaticRow) (rows : List StaticRow) (j : StaticIndex) (v : Bool) → same_index row.index j ≡ v → row_of (rows_with n row rows) j ≡ cond v (left_by row) (row_of rows j)
  after_by row rows j true e =
      let is : row.index ≡ j = index-exact row.index j e in
      sym (ap (row_of (rows_with n row rows)) is) ∙ own_after row rows
  after_by row rows j false e = other_after row rows j (λ same. index-other row.index j e (sym same))

  pub after : (row : StaticRow) (rows : List StaticRow) (j : StaticIndex) → row_of (rows_with n row rows) j ≡ cond (same_index row.index j) (left_by row) (row_of rows j)
  after row rows j = after_by row rows j (same_index row.index j) refl

  -- so it is made or not as was put, and its ports are those that were put
  made_by_row : (row : StaticRow) (v : Bool) → says n row.made row.ports ≡ v → is_made_in (cond v (Some row) None) ≡ row.made
  made_by_row row true e = refl
  made_by_row row false e = sym (or_parts row.made (not (has_all n row.ports)) e).0

  pub made_after : (row : StaticRow) (rows : List StaticRow) → is_made_in (row_of (rows_with n row rows) row.index) ≡ row.made
  made_after row rows = ap is_made_in (own_after row rows) ∙ made_by_row row (says n row.made row.ports) refl

  ports_by_row : (row : StaticRow) (v : Bool) → says n row.made row.ports ≡ v → IsOfPorts n row.ports → ports_of n (cond v (Some row) None) ≡ row.ports
  ports_by_row row true e ports = refl
  ports_by_row row false e ports = all_ports n row.ports ports (not_back (has_all n row.ports) (or_parts row.made (not (has_all n row.ports)) e).1)

  pub ports_after : (row : StaticRow) (rows : List StaticRow) → IsOfPorts n row.ports → ports_of n (row_of (rows_with n row rows) row.index) ≡ row.ports
  ports_after row rows ports = ap (ports_of n) (own_after row rows) ∙ ports_by_row row (says n row.made row.ports) refl ports

  -- rows stay in order
  rising_by : (row : StaticRow) (rows : List StaticRow) (v : Bool) → IsRising rows → IsRising (cond v (put_row rows row) (without_row rows row.index))
  rising_by row rows true up = rising_put rows row up
  rising_by row rows false up = rising_without rows row.index up

  pub rising_with : (row : StaticRow) (rows : List StaticRow) → IsRising rows → IsRising (rows_with n row rows)
  rising_with row rows up = rising_by row rows (says n row.made row.ports) up

  -- ---- a finite map

  last_stands : {X : Type 0} (b : Bool) (x y z : X) → cond b x (cond b y z) ≡ cond b x z
  last_stands true x y z = refl
  last_stands false x y z = refl

  pub put_twice : (row first : StaticRow) (rows : List StaticRow) → first.index ≡ row.index → IsRising rows → rows_with n row (rows_with n first rows) ≡ rows_with n row rows
  put_twice row first rows same up =
      same_tables (rows_with n row (rows_with n first rows)) (rows_with n row rows)
      (rising_with row (rows_with n first rows) (rising_with first rows up)) (rising_with row rows up)
      (λ j.
      after row (rows_with n first rows) j
      ∙ ap (cond (same_index row.index j) (left_by row)) (after first rows j ∙ ap (λ (i : StaticIndex). cond (same_index i j) (left_by first) (row_of rows j)) same)
      ∙ last_stands (same_index row.index j) (left_by row) (left_by first) (row_of rows j)
      ∙ sym (after row rows j))

  either_first : (a b : StaticRow) (j : StaticIndex) (x : Option StaticRow) (v u : Bool) → same_index a.index j ≡ v → same_index b.index j ≡ u → a.index ≢ b.index → cond v (left_by a) (cond u (left_by b) x) ≡ cond u (left_by b) (cond v (left_by a) x)
  either_first a b j x true true e f ne = absurd (ne (index-exact a.index j e ∙ sym (index-exact b.index j f)))
  either_first a b j x true false e f ne = refl
  either_first a b j x false true e f ne = refl
  either_first a b j x false false e f ne = refl

  pub put_either : (a b : StaticRow) (rows : List StaticRow) → a.index ≢ b.index → IsRising rows → rows_with n a (rows_with n b rows) ≡ rows_with n b (rows_with n a rows)
  put_either a b rows ne up =
      same_tables (rows_with n a (rows_with n b rows)) (rows_with n b (rows_with n a rows))
      (rising_with a (rows_with n b rows) (rising_with b rows up)) (rising_with b (rows_with n a rows) (rising_with a rows up))
      (λ j.
      after a (rows_with n b rows) j
      ∙ ap (cond (same_index a.index j) (left_by a)) (after b rows j)
      ∙ either_first a b j (row_of rows j) (same_index a.index j) (same_index b.index j) refl refl ne
      ∙ sym (after b (rows_with n a rows) j ∙ ap (cond (same_index b.index j) (left_by b)) (after a rows j)))

  -- a row that is there says something
  there_by : (x : StaticRow) (xs : List StaticRow) (i : StaticIndex) (r : StaticRow) (v : Bool) → IsStaticRow n x → (row_of xs i ≡ Some r → IsStaticRow n r) → cond v (Some x) (row_of xs i) ≡ Some r → IsStaticRow n r
  there_by x xs i r true h more e = let same : x ≡ r = cc in subst (IsStaticRow n) same h
  there_by x xs i r false h more e = more e

  there : (rows : List StaticRow) (i : StaticIndex) (r : StaticRow) → AreStaticRows n rows → row_of rows i ≡ Some r → IsStaticRow n r
  there [] i r are e = absurd cc
  there (x ∷ xs) i r are e = there_by x xs i r (is_eq (index_cmp x.index i)) are.0 (there xs i r are.1) e

  none_says : says n false (first_ports n) ≡ false
  none_says = ap not (first_have_all n)

  same_by : (rows : List StaticRow) (i : StaticIndex) (o : Option StaticRow) → row_of rows i ≡ o → AreStaticRows n rows → left_by (record { index = i; made = is_made_in o; ports = ports_of n o }) ≡ o
  same_by rows i None e are = ap (λ v. cond v (Some (record { index = i; made = false; ports = first_ports n })) None) none_says
  same_by rows i (Some r) e are =
      ap (λ v. cond v (Some (record { index = i; made = r.made; ports = r.ports })) None) (there rows i r are e).says
      ∙ ap (λ (k : StaticIndex). Some (record { index = k; made = r.made; ports = r.ports })) (sym (found_index rows i r e))

  pub same_there : (rows : List StaticRow) (i : StaticIndex) → AreStaticRows n rows → left_by (row_at rows i) ≡ row_of rows i
  same_there rows i are = same_by rows i (row_of rows i) refl are

  -- what is there changes nothing where it is put again
  again_by : (rows : List StaticRow) (i j : StaticIndex) (v : Bool) → same_index i j ≡ v → AreStaticRows n rows → cond v (left_by (row_at rows i)) (row_of rows j) ≡ row_of rows j
  again_by rows i j true e are = same_there rows i are ∙ ap (row_of rows) (index-exact i j e)
  again_by rows i j false e are = refl

  pub put_again : (rows : List StaticRow) (i : StaticIndex) → IsRising rows → AreStaticRows n rows → rows_with n (row_at rows i) rows ≡ rows
  put_again rows i up are =
      same_tables (rows_with n (row_at rows i) rows) rows (rising_with (row_at rows i) rows up) up
      (λ j. after (row_at rows i) rows j ∙ again_by rows i j (same_index i j) refl are)

  -- ---- the two settings of an index

  abbrev pub with_made : StaticIndex → Bool → List StaticRow → List StaticRow
  with_made i made rows = rows_with n (record { index = i; made = made; ports = ports_of n (row_of rows i) }) rows

  abbrev pub with_allowed : StaticIndex → PortSet → List StaticRow → List StaticRow
  with_allowed i ports rows = rows_with n (record { index = i; made = is_made_in (row_of rows i); ports = ports }) rows

  module _ (rows : List StaticRow) (up : IsRising rows) (are : AreStaticRows n rows) where
    of_ports : (i : StaticIndex) → IsOfPorts n (ports_of n (row_of rows i))
    of_ports i = allowed_ports n rows i are

    -- each keeps the other
    pub made_keeps : (i : StaticIndex) (made : Bool) → ports_of n (row_of (with_made i made rows) i) ≡ ports_of n (row_of rows i)
    made_keeps i made = ports_after (record { index = i; made = made; ports = ports_of n (row_of rows i) }) rows (of_ports i)

    pub allowed_keeps : (i : StaticIndex) (ports : PortSet) → is_made_in (row_of (with_allowed i ports rows) i) ≡ is_made_in (row_of rows i)
    allowed_keeps i ports = made_after (record { index = i; made = is_made_in (row_of rows i); ports = ports }) rows

    -- and both those of another index
    pub made_others : (i j : StaticIndex) (made : Bool) → j ≢ i → row_of (with_made i made rows) j ≡ row_of rows j
    made_others i j made ne = other_after (record { index = i; made = made; ports = ports_of n (row_of rows i) }) rows j ne

    pub allowed_others : (i j : StaticIndex) (ports : PortSet) → j ≢ i → row_of (with_allowed i ports rows) j ≡ row_of rows j
    allowed_others i j ports ne = other_after (record { index = i; made = is_made_in (row_of rows i); ports = ports }) rows j ne

    pub made_twice : (i : StaticIndex) (made first : Bool) → with_made i made (with_made i first rows) ≡ with_made i made rows
    made_twice i made first =
        ap (λ (s : PortSet). rows_with n (record { index = i; made = made; ports = s }) (with_made i first rows)) (made_keeps i first)
        ∙ put_twice (record { index = i; made = made; ports = ports_of n (row_of rows i) }) (record { index = i; made = first; ports = ports_of n (row_of rows i) }) rows refl up

    pub allowed_twice : (i : StaticIndex) (ports first : PortSet) → with_allowed i ports (with_allowed i first rows) ≡ with_allowed i ports rows
    allowed_twice i ports first =
        ap (λ (m : Bool). rows_with n (record { index = i; made = m; ports = ports }) (with_allowed i first rows)) (allowed_keeps i first)
        ∙ put_twice (record { index = i; made = is_made_in (row_of rows i); ports = ports }) (record { index = i; made = is_made_in (row_of rows i); ports = first }) rows refl up

    pub made_again : (i : StaticIndex) → with_made i (is_made_in (row_of rows i)) rows ≡ rows
    made_again i = put_again rows i up are

    pub allowed_again : (i : StaticIndex) → with_allowed i (ports_of n (row_of rows i)) rows ≡ rows
    allowed_again i = put_again rows i up are

    pub made_either : (i j : StaticIndex) (a b : Bool) → i ≢ j → with_made j b (with_made i a rows) ≡ with_made i a (with_made j b rows)
    made_either i j a b ne =
        ap (λ (o : Option StaticRow). rows_with n (record { index = j; made = b; ports = ports_of n o }) (with_made i a rows)) (made_others i j a (λ e. ne (sym e)))
        ∙ put_either (record { index = j; made = b; ports = ports_of n (row_of rows j) }) (record { index = i; made = a; ports = ports_of n (row_of rows i) }) rows (λ e. ne (sym e)) up
        ∙ sym (ap (λ (o : Option StaticRow). rows_with n (record { index = i; made = a; ports = ports_of n o }) (with_made j b rows)) (made_others j i b ne))

    pub allowed_either : (i j : StaticIndex) (a b : PortSet) → i ≢ j → with_allowed j b (with_allowed i a rows) ≡ with_allowed i a (with_allowed j b rows)
    allowed_either i j a b ne =
        ap (λ (o : Option StaticRow). rows_with n (record { index = j; made = is_made_in o; ports = b }) (with_allowed i a rows)) (allowed_others i j a (λ e. ne (sym e)))
        ∙ put_either (record { index = j; made = is_made_in (row_of rows j); ports = b }) (record { index = i; made = is_made_in (row_of rows i); ports = a }) rows (λ e. ne (sym e)) up
        ∙ sym (ap (λ (o : Option StaticRow). rows_with n (record { index = i; made = is_made_in o; ports = a }) (with_allowed j b rows)) (allowed_others j i b ne))

    -- a row is made or not, and its ports are set, in either order
    both_same : (i : StaticIndex) (made : Bool) (ports : PortSet) → IsOfPorts n ports → with_allowed i ports (with_made i made rows) ≡ with_made i made (with_allowed i ports rows)
    both_same i made ports range =
        let row : StaticRow = record { index = i; made = made; ports = ports } in
        let one : StaticRow = record { index = i; made = made; ports = ports_of n (row_of rows i) } in
        let two : StaticRow = record { index = i; made = is_made_in (row_of rows i); ports = ports } in
        ap (λ (m : Bool). rows_with n (record { index = i; made = m; ports = ports }) (with_made i made rows)) (made_after one rows)
        ∙ put_twice row one rows refl up
        ∙ sym (ap (λ (s : PortSet). rows_with n (record { index = i; made = made; ports = s }) (with_allowed i ports rows)) (ports_after two rows range)
        ∙ put_twice row two rows refl up)

    both_other : (i j : StaticIndex) (made : Bool) (ports : PortSet) → i ≢ j → with_allowed j ports (with_made i made rows) ≡ with_made i made (with_allowed j ports rows)
    both_other i j made ports ne =
        ap (λ (o : Option StaticRow). rows_with n (record { index = j; made = is_made_in o; ports = ports }) (with_made i made rows)) (made_others i j made (λ e. ne (sym e)))
        ∙ put_either (record { index = j; made = is_made_in (row_of rows j); ports = ports }) (record { index = i; made = made; ports = ports_of n (row_of rows i) }) rows (λ e. ne (sym e)) up
        ∙ sym (ap (λ (o : Option StaticRow). rows_with n (record { index = i; made = made; ports = ports_of n o }) (with_allowed j ports rows)) (allowed_others j i ports ne))

    both_by : (i j : StaticIndex) (made : Bool) (ports : PortSet) (v : Bool) → same_index i j ≡ v → IsOfPorts n ports → with_allowed j ports (with_made i made rows) ≡ with_made i made (with_allowed j ports rows)
    both_by i j made ports true e range =
        subst (λ (k : StaticIndex). with_allowed k ports (with_made i made rows) ≡ with_made i made (with_allowed k ports rows)) (index-exact i j e) (both_same i made ports range)
    both_by i j made ports false e range = both_other i j made ports (index-other i j e)

    pub both_either : (i j : StaticIndex) (made : Bool) (ports : PortSet) → IsOfPorts n ports → with_allowed j ports (with_made i made rows) ≡ with_made i made (with_allowed j ports rows)
    both_either i j made ports range = both_by i j made ports (same_index i j) refl range

    -- a set of the two settings leaves the rest of another index
    made_keeps_by : (i j : StaticIndex) (made : Bool) (v : Bool) → same_index i j ≡ v → ports_of n (row_of (with_made i made rows) j) ≡ ports_of n (row_of rows j)
    made_keeps_by i j made true e =
        subst (λ (k : StaticIndex). ports_of n (row_of (with_made i made rows) k) ≡ ports_of n (row_of rows k)) (index-exact i j e) (made_keeps i made)
    made_keeps_by i j made false e = ap (ports_of n) (made_others i j made (λ q. index-other i j e (sym q)))

    pub made_keeps_ports : (i j : StaticIndex) (made : Bool) → ports_of n (row_of (with_made i made rows) j) ≡ ports_of n (row_of rows j)
    made_keeps_ports i j made = made_keeps_by i j made (same_index i j) refl

    allowed_keeps_by : (i j : StaticIndex) (ports : PortSet) (v : Bool) → same_index i j ≡ v → is_made_in (row_of (with_allowed i ports rows) j) ≡ is_made_in (row_of rows j)
    allowed_keeps_by i j ports true e =
        subst (λ (k : StaticIndex). is_made_in (row_of (with_allowed i ports rows) k) ≡ is_made_in (row_of rows k)) (index-exact i j e) (allowed_keeps i ports)
    allowed_keeps_by i j ports false e = ap is_made_in (allowed_others i j ports (λ q. index-other i j e (sym q)))

    pub allowed_keeps_made : (i j : StaticIndex) (ports : PortSet) → is_made_in (row_of (with_allowed i ports rows) j) ≡ is_made_in (row_of rows j)
    allowed_keeps_made i j ports = allowed_keeps_by i j ports (same_index i j) refl

-- ---- how many rows there are

-- below and above an index there are no more rows than in all, and as many where it has none
fewer_step : (x : StaticRow) (o : Ordering) (low high : List StaticRow) (m : ℕ) → length low + length high ≤ m → length (cond (is_lt o) (x ∷ low) low) + length (cond (is_gt o) (x ∷ high) high) ≤ suc m
fewer_step x Less low high m h = omega (arith, h)
fewer_step x Equal low high m h = omega (arith, h)
fewer_step x Greater low high m h = omega (arith, h)

fewer : (rows : List StaticRow) (i : StaticIndex) → length (rows_below rows i) + length (rows_above rows i) ≤ length rows
fewer [] i = omega arith
fewer (x ∷ xs) i = fewer_step x (index_cmp x.index i) (rows_below xs i) (rows_above xs i) (length xs) (fewer xs i)

as_many_step : (x : StaticRow) (xs : List StaticRow) (i : StaticIndex) (o : Ordering) → (row_of xs i ≡ None → length (rows_below xs i) + length (rows_above xs i) ≡ length xs) → cond (is_eq o) (Some x) (row_of xs i) ≡ None → length (cond (is_lt o) (x ∷ rows_below xs i) (rows_below xs i)) + length (cond (is_gt o) (x ∷ rows_above xs i) (rows_above xs i)) ≡ suc (length xs)
as_many_step x xs i Less more e = omega (arith, more e)
as_many_step x xs i Equal more e = absurd cc
as_many_step x xs i Greater more e = omega (arith, more e)

as_many : (rows : List StaticRow) (i : StaticIndex) → row_of rows i ≡ None → length (rows_below rows i) + length (rows_above rows i) ≡ length rows
as_many [] i e = refl
as_many (x ∷ xs) i e = as_many_step x xs i (index_cmp x.index i) (as_many xs i) e

most_by : (n : ℕ) (row : StaticRow) (rows : List StaticRow) (v : Bool) → length (cond v (put_row rows row) (without_row rows row.index)) ≤ length rows + 1
most_by n row rows true = omega (arith, fewer rows row.index, length-append (rows_below rows row.index) (row ∷ rows_above rows row.index))
most_by n row rows false = omega (arith, fewer rows row.index, length-append (rows_below rows row.index) (rows_above rows row.index))

pub one_more : (n : ℕ) (row : StaticRow) (rows : List StaticRow) → length (rows_with n row rows) ≤ length rows + 1
one_more n row rows = most_by n row rows (says n row.made row.ports)

-- where a row is brought in, there is one more
pub brought_in : (n : ℕ) (row : StaticRow) (rows : List StaticRow) → says n row.made row.ports ≡ true → row_of rows row.index ≡ None → length (rows_with n row rows) ≡ length rows + 1
brought_in n row rows e none =
    ap (λ v. length (cond v (put_row rows row) (without_row rows row.index))) e
    ∙ omega (arith, as_many rows row.index none, length-append (rows_below rows row.index) (row ∷ rows_above rows row.index))
