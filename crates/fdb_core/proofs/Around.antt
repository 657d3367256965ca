-- Addresses by the moment at which each was learned, around one address.
use Rattle.std.proofs.Common.{◌≡◌, ◌≢◌, ℕ, ◌-◌, ◌<◌, ◌≤◌, length, arith, Bool, true, false, cond, ◌&&◌, List, [], ◌∷◌, ◌++◌, Option, Some, None, refl, sym, ap, ap₂, ◌∙◌}
use Rattle.std.specs.Prelude.{filter, slice_get, nat_lt}
use Rattle.std.specs.List.{AllByRecursion}
use Rattle.std.specs.List.Sorted.{IsStrictlySortedBy}
use Rattle.std.specs.Map.{keys_of, lookup}
use Rattle.std.specs.BTreeMap.{insert_entry}
use Rattle.std.specs.BTreeMap.Range.{entries_between}
use Rattle.std.specs.declared.ops.Bound.TheVariants.{Excluded, Unbounded}
use Rattle.std.specs.Option.{option_map, is_some}
use Rattle.std.specs.Ordering.{is_lt, is_eq, is_gt, ordering_reverse, match_ordering}
use Rattle.std.specs.declared.cmp.Ordering.{Ordering}
use Rattle.std.specs.declared.cmp.Ordering.TheVariants.{Less, Equal, Greater}
use Rattle.std.proofs.lemmas.Bool.{lt-ltb, le-ltb, eq-eqb, ne_eqb}
use Rattle.std.proofs.lemmas.List.{length-map}
use Rattle.std.proofs.lemmas.Cmp.{nat_list_cmp_total}
use Rattle.frame_core.specs.declared.mac.Mac.{Mac}
use Rattle.frame_core.specs.Octets.{mac_cmp}
use Rattle.fdb_core.specs.declared.row.LearnedRow.{LearnedRow}
use Rattle.fdb_core.specs.declared.seen.Seen.{Seen}
use Rattle.fdb_core.specs.Rows.{rows_below, rows_above, row_of, port_of, next_after}
use Rattle.fdb_core.specs.Learning.{with_row, new_row, answer_on, answer_from, answer}
use Rattle.fdb_core.specs.declared.learnt.Learnt.TheVariants.{New, Moved, Same, Full}
use Rattle.fdb_core.specs.Seen.{row_at, rows_at, first_row}
use Rattle.fdb_core.proofs.Order.{above_from_below, below_from_above, below_trans, same_address}

-- a test of the rows is a test of the addresses
pub rows_filter : (p : LearnedRow → Bool) (tick : ℕ) (es : List (Mac × Seen)) → filter p (rows_at tick es) ≡ rows_at tick (filter (λ e. p (row_at tick e)) es)
rows_filter p tick [] = refl
rows_filter p tick (e ∷ es) =
    let more = rows_filter p tick es in
    elim (p (row_at tick e)) as (λ b. cond b (row_at tick e ∷ filter p (rows_at tick es)) (filter p (rows_at tick es)) ≡ rows_at tick (cond b (e ∷ filter (λ e. p (row_at tick e)) es) (filter (λ e. p (row_at tick e)) es)))
    [ true ↦ ap (λ l. row_at tick e ∷ l) more | false ↦ more ]

-- two tests that agree keep the same
filter_alike : (p q : Mac × Seen → Bool) → ((e : Mac × Seen) → p e ≡ q e) → (es : List (Mac × Seen)) → filter p es ≡ filter q es
filter_alike p q same [] = refl
filter_alike p q same (e ∷ es) = ap₂ (λ b l. cond b (e ∷ l) l) (same e) (filter_alike p q same es)

-- an order read the other way round
turned_eq : (o : Ordering) → is_eq (ordering_reverse o) ≡ is_eq o
turned_eq Less = refl
turned_eq Equal = refl
turned_eq Greater = refl

turned_gt : (o : Ordering) → is_gt (ordering_reverse o) ≡ (is_lt o && true)
turned_gt Less = refl
turned_gt Equal = refl
turned_gt Greater = refl

turned : (a b : Mac) → mac_cmp a b ≡ ordering_reverse (mac_cmp b a)
turned a b = nat_list_cmp_total.antisymm a.0 b.0

-- a lookup finds the address's row
found_more : (tick : ℕ) (a : Mac) (e : Mac × Seen) (es : List (Mac × Seen)) → row_of (rows_at tick es) a ≡ option_map (λ s. row_at tick (a, s)) (lookup (λ k. is_eq (mac_cmp a k)) es) → (o : Ordering) → mac_cmp a e.0 ≡ o → row_of (rows_at tick (e ∷ es)) a ≡ option_map (λ s. row_at tick (a, s)) (lookup (λ k. is_eq (mac_cmp a k)) (e ∷ es))
found_more tick a e es more Less is =
    let back : mac_cmp e.0 a ≡ Greater = turned e.0 a ∙ ap ordering_reverse is in
    rw (is, back) more
found_more tick a e es more Equal is =
    let back : mac_cmp e.0 a ≡ Equal = turned e.0 a ∙ ap ordering_reverse is in
    let same : e.0 ≡ a = same_address e.0 a back in
    rw (is, back) (ap (λ (m : Mac). Some (row_at tick (m, e.1))) same)
found_more tick a e es more Greater is =
    let back : mac_cmp e.0 a ≡ Less = turned e.0 a ∙ ap ordering_reverse is in
    rw (is, back) more

pub found : (tick : ℕ) (a : Mac) (es : List (Mac × Seen)) → row_of (rows_at tick es) a ≡ option_map (λ s. row_at tick (a, s)) (lookup (λ k. is_eq (mac_cmp a k)) es)
found tick a [] = refl
found tick a (e ∷ es) = found_more tick a e es (found tick a es) (mac_cmp a e.0) refl

port_behind : (tick : ℕ) (a : Mac) (o : Option Seen) → option_map (λ r. r.port) (option_map (λ s. row_at tick (a, s)) o) ≡ option_map (λ s. s.port) o
port_behind tick a None = refl
port_behind tick a (Some s) = refl

pub port_found : (tick : ℕ) (a : Mac) (es : List (Mac × Seen)) → port_of (rows_at tick es) a ≡ option_map (λ s. s.port) (lookup (λ k. is_eq (mac_cmp a k)) es)
port_found tick a es = ap (λ o. option_map (λ r. r.port) o) (found tick a es) ∙ port_behind tick a (lookup (λ k. is_eq (mac_cmp a k)) es)

-- what learning answers, by what the lookup finds
module _ (tick : ℕ) (es : List (Mac × Seen)) (limit : ℕ) (a : Mac) (port : ℕ) where
  from_found : (o : Option Seen) → lookup (λ k. is_eq (mac_cmp a k)) es ≡ o → answer (rows_at tick es) limit a port ≡ answer_from (option_map (λ s. s.port) o) (rows_at tick es) limit port
  from_found o e = ap (λ p. answer_from p (rows_at tick es) limit port) (port_found tick a es ∙ ap (λ q. option_map (λ s. s.port) q) e)

  known_answer : (s : Seen) → lookup (λ k. is_eq (mac_cmp a k)) es ≡ Some s → answer (rows_at tick es) limit a port ≡ answer_on s.port port
  known_answer s e = from_found (Some s) e

  pub same_answer : (s : Seen) → lookup (λ k. is_eq (mac_cmp a k)) es ≡ Some s → s.port ≡ port → answer (rows_at tick es) limit a port ≡ Same
  same_answer s e same = known_answer s e ∙ ap (λ b. cond b Same Moved) (eq-eqb s.port port same)

  pub moved_answer : (s : Seen) → lookup (λ k. is_eq (mac_cmp a k)) es ≡ Some s → s.port ≢ port → answer (rows_at tick es) limit a port ≡ Moved
  moved_answer s e other = known_answer s e ∙ ap (λ b. cond b Same Moved) (ne_eqb s.port port other)

  pub new_answer : lookup (λ k. is_eq (mac_cmp a k)) es ≡ None → length es < limit → answer (rows_at tick es) limit a port ≡ New
  new_answer e place =
      let lt : nat_lt (length (rows_at tick es)) limit ≡ true = lt-ltb _ _ (omega (arith, place, length-map es (row_at tick))) in
      from_found None e ∙ ap (λ b. cond b New Full) lt

  pub full_answer : is_some (lookup (λ k. is_eq (mac_cmp a k)) es) ≡ false → limit ≤ length es → answer (rows_at tick es) limit a port ≡ Full
  full_answer e full =
      let ge : nat_lt (length (rows_at tick es)) limit ≡ false = le-ltb _ _ (omega (arith, full, length-map es (row_at tick))) in
      from_found None (none_if _ e) ∙ ap (λ b. cond b New Full) ge
    where
      none_if : (o : Option Seen) → is_some o ≡ false → o ≡ None
      none_if None h = refl
      none_if (Some s) h = cc

-- the first row is the first address's
row_of_first : (tick : ℕ) (es : List (Mac × Seen)) → slice_get (rows_at tick es) 0 ≡ first_row tick es
row_of_first tick [] = refl
row_of_first tick (e ∷ es) = refl

all_kept : (es : List (Mac × Seen)) → filter (λ e. true && true) es ≡ es
all_kept [] = refl
all_kept (e ∷ es) = ap (λ l. e ∷ l) (all_kept es)

pub first_of_all : (tick : ℕ) (es : List (Mac × Seen)) → first_row tick (entries_between mac_cmp Unbounded Unbounded es) ≡ next_after (rows_at tick es) None
first_of_all tick es = ap (first_row tick) (all_kept es) ∙ sym (row_of_first tick es)

pub first_above : (tick : ℕ) (a : Mac) (es : List (Mac × Seen)) → first_row tick (entries_between mac_cmp (Excluded a) Unbounded es) ≡ next_after (rows_at tick es) (Some a)
first_above tick a es =
    let above = filter_alike (λ e. is_lt (mac_cmp a e.0) && true) (λ e. is_gt (mac_cmp e.0 a)) (λ e. sym (ap is_gt (turned e.0 a) ∙ turned_gt (mac_cmp a e.0))) es in
    ap (first_row tick) above ∙ sym (ap (λ l. slice_get l 0) (rows_filter (λ r. is_gt (mac_cmp r.address a)) tick es) ∙ row_of_first tick (filter (λ e. is_gt (mac_cmp e.0 a)) es))

-- rows of higher addresses only
pub record AllAbove (a : Mac) (rows : List LearnedRow) : Type 0 where
  pub below : rows_below rows a ≡ []
  pub above : rows_above rows a ≡ rows

all_above : (tick : ℕ) (a b : Mac) → mac_cmp a b ≡ Less → (es : List (Mac × Seen)) → AllByRecursion (λ k. mac_cmp b k ≡ Less) (keys_of es) → AllAbove a (rows_at tick es)
all_above tick a b lt [] h = record { below = refl; above = refl }
all_above tick a b lt (e ∷ es) h =
    let more = all_above tick a b lt es h.1 in
    let back : mac_cmp e.0 a ≡ Greater = above_from_below a e.0 (below_trans a b e.0 lt h.0) in
    record {
      below = rw back more.below;
      above = rw back (ap (λ l. row_at tick e ∷ l) more.above);
    }

module _ (tick : ℕ) (a : Mac) (s : Seen) where
  -- an address put in its place is a row put in its place
  put_more : (e : Mac × Seen) (es : List (Mac × Seen)) → AllByRecursion (λ k. mac_cmp e.0 k ≡ Less) (keys_of es)
      → rows_at tick (insert_entry mac_cmp es a s) ≡ with_row (rows_at tick es) (row_at tick (a, s)) → (o : Ordering) → mac_cmp a e.0 ≡ o
      → rows_at tick (match_ordering o ((a, s) ∷ e ∷ es) ((e.0, s) ∷ es) (e ∷ insert_entry mac_cmp es a s)) ≡ with_row (rows_at tick (e ∷ es)) (row_at tick (a, s))
  put_more e es up more Less is =
      let rest = all_above tick a e.0 is es up in
      let back : mac_cmp e.0 a ≡ Greater = above_from_below a e.0 is in
      rw back (sym (ap₂ (λ l m. l ++ row_at tick (a, s) ∷ row_at tick e ∷ m) rest.below rest.above))
  put_more e es up more Equal is =
      let back : mac_cmp e.0 a ≡ Equal = turned e.0 a ∙ ap ordering_reverse is in
      let same : e.0 ≡ a = same_address e.0 a back in
      let rest = all_equal e.0 a es same up in
      rw back (ap (λ (m : Mac). row_at tick (m, s) ∷ rows_at tick es) same ∙ sym (ap₂ (λ l m. l ++ row_at tick (a, s) ∷ m) rest.below rest.above))
    where
      all_equal : (m b : Mac) (fs : List (Mac × Seen)) → m ≡ b → AllByRecursion (λ k. mac_cmp m k ≡ Less) (keys_of fs) → AllAbove b (rows_at tick fs)
      all_equal m b [] same h = record { below = refl; above = refl }
      all_equal m b (f ∷ fs) same h =
          let later = all_equal m b fs same h.1 in
          let back : mac_cmp f.0 b ≡ Greater = above_from_below b f.0 (ap (λ (x : Mac). mac_cmp x f.0) (sym same) ∙ h.0) in
          record {
            below = rw back later.below;
            above = rw back (ap (λ l. row_at tick f ∷ l) later.above);
          }
  put_more e es up more Greater is =
      let back : mac_cmp e.0 a ≡ Less = below_from_above a e.0 is in
      rw back (ap (λ l. row_at tick e ∷ l) more)

  put : (es : List (Mac × Seen)) → IsStrictlySortedBy mac_cmp (keys_of es) → rows_at tick (insert_entry mac_cmp es a s) ≡ with_row (rows_at tick es) (row_at tick (a, s))
  unfolding IsStrictlySortedBy
  put [] up = refl
  put (e ∷ es) up = put_more e es up.0 (put es up.1) (mac_cmp a e.0) refl

-- an address learned now is a row of age 0
pub put_now : (tick : ℕ) (a : Mac) (port : ℕ) (es : List (Mac × Seen)) → IsStrictlySortedBy mac_cmp (keys_of es) → rows_at tick (insert_entry mac_cmp es a (record { port = port; tick = tick })) ≡ with_row (rows_at tick es) (new_row a port)
put_now tick a port es up =
    let none : tick - tick ≡ 0 = omega arith in
    let row : ℕ → LearnedRow = λ age. record { address = a; port = port; age = age } in
    put tick a (record { port = port; tick = tick }) es up ∙ ap (with_row (rows_at tick es)) (ap row none)
