-- Which row an address has once another was learned.
use Rattle.std.proofs.Common.{◌≡◌, ◌≢◌, ℕ, Bool, true, false, cond, List, [], ◌∷◌, ◌++◌, Option, Some, None, refl, ap, ◌∙◌}
use Rattle.std.specs.Prelude.{filter, find}
use Rattle.std.specs.Ordering.{is_lt, is_eq, is_gt}
use Rattle.std.specs.declared.cmp.Ordering.{Ordering}
use Rattle.std.specs.declared.cmp.Ordering.TheVariants.{Less, Equal, Greater}
use Rattle.std.proofs.lemmas.Cmp.{nat_list_cmp_total, tied_itself}
use Rattle.frame_core.specs.declared.mac.Mac.{Mac}
use Rattle.fdb_core.specs.declared.row.LearnedRow.{LearnedRow}
use Rattle.fdb_core.specs.declared.learnt.Learnt.{Learnt}
use Rattle.fdb_core.specs.declared.learnt.Learnt.TheVariants.{New, Moved, Same, Full, Memory}
use Rattle.fdb_core.specs.Rows.{rows_below, rows_above, row_of}
use Rattle.frame_core.specs.Octets.{mac_cmp}
use Rattle.fdb_core.specs.Learning.{with_row, new_row, learned_rows}
use Rattle.fdb_core.proofs.Order.{same_address, above_from_below, below_from_above}

not_true : (b : Bool) → (b ≡ true → ⊥) → b ≡ false
not_true true h = absurd (h refl)
not_true false h = refl

is_equal : (o : Ordering) → is_eq o ≡ true → o ≡ Equal
is_equal Less h = cc
is_equal Equal h = refl
is_equal Greater h = cc

abbrev first_of : Option LearnedRow → Option LearnedRow → Option LearnedRow
first_of None o = o
first_of (Some r) o = Some r

module _ (p : LearnedRow → Bool) where
  found_joined : (xs ys : List LearnedRow) → find p (xs ++ ys) ≡ first_of (find p xs) (find p ys)
  found_joined [] ys = refl
  found_joined (x ∷ xs) ys =
      let more = found_joined xs ys in
      elim (p x) as (λ b. cond b (Some x) (find p (xs ++ ys)) ≡ first_of (cond b (Some x) (find p xs)) (find p ys)) [ true ↦ refl | false ↦ more ]

  kept_step : (x : LearnedRow) (xs ys : List LearnedRow) (d : Bool) → (p x ≡ true → d ≡ true) → find p ys ≡ find p xs → find p (cond d (x ∷ ys) ys) ≡ cond (p x) (Some x) (find p xs)
  kept_step x xs ys true h e = ap (λ o. cond (p x) (Some x) o) e
  kept_step x xs ys false h e =
      let no : p x ≡ false = not_true (p x) (λ t. let bad = h t in cc) in
      rw no e

  dropped_step : (x : LearnedRow) (ys : List LearnedRow) (d : Bool) → (p x ≡ true → d ≡ false) → find p ys ≡ None → find p (cond d (x ∷ ys) ys) ≡ None
  dropped_step x ys false h e = e
  dropped_step x ys true h e =
      let no : p x ≡ false = not_true (p x) (λ t. let bad = h t in cc) in
      rw no e

  module _ (q : LearnedRow → Bool) where
    -- a filter that keeps what is sought, and one that drops it
    found_kept : ((x : LearnedRow) → p x ≡ true → q x ≡ true) → (xs : List LearnedRow) → find p (filter q xs) ≡ find p xs
    found_kept keeps [] = refl
    found_kept keeps (x ∷ xs) = kept_step x xs (filter q xs) (q x) (keeps x) (found_kept keeps xs)

    found_dropped : ((x : LearnedRow) → p x ≡ true → q x ≡ false) → (xs : List LearnedRow) → find p (filter q xs) ≡ None
    found_dropped drops [] = refl
    found_dropped drops (x ∷ xs) = dropped_step x (filter q xs) (q x) (drops x) (found_dropped drops xs)

-- how a row of an address compares with another address
compares : (x : LearnedRow) (a b : Mac) → is_eq (mac_cmp x.address b) ≡ true → mac_cmp x.address a ≡ mac_cmp b a
compares x a b e = ap (λ (m : Mac). mac_cmp m a) (same_address x.address b (is_equal _ e))

first_none : (o : Option LearnedRow) → first_of o None ≡ o
first_none None = refl
first_none (Some r) = refl

module _ (rows : List LearnedRow) (r : LearnedRow) (b : Mac) where
  parts : row_of (with_row rows r) b ≡ first_of (row_of (rows_below rows r.address) b) (row_of (r ∷ rows_above rows r.address) b)
  parts = found_joined (λ x. is_eq (mac_cmp x.address b)) (rows_below rows r.address) (r ∷ rows_above rows r.address)

  below_it : mac_cmp b r.address ≡ Less → row_of (with_row rows r) b ≡ row_of rows b
  below_it e =
      let kept : row_of (rows_below rows r.address) b ≡ row_of rows b = found_kept (λ x. is_eq (mac_cmp x.address b)) (λ x. is_lt (mac_cmp x.address r.address)) (λ x h. ap is_lt (compares x r.address b h ∙ e)) rows in
      let dropped : row_of (rows_above rows r.address) b ≡ None = found_dropped (λ x. is_eq (mac_cmp x.address b)) (λ x. is_gt (mac_cmp x.address r.address)) (λ x h. ap is_gt (compares x r.address b h ∙ e)) rows in
      let here : mac_cmp r.address b ≡ Greater = above_from_below b r.address e in
      let back : row_of (r ∷ rows_above rows r.address) b ≡ None = rw here dropped in
      parts ∙ ap (λ o. first_of (row_of (rows_below rows r.address) b) o) back ∙ first_none _ ∙ kept

  above_it : mac_cmp b r.address ≡ Greater → row_of (with_row rows r) b ≡ row_of rows b
  above_it e =
      let dropped : row_of (rows_below rows r.address) b ≡ None = found_dropped (λ x. is_eq (mac_cmp x.address b)) (λ x. is_lt (mac_cmp x.address r.address)) (λ x h. ap is_lt (compares x r.address b h ∙ e)) rows in
      let kept : row_of (rows_above rows r.address) b ≡ row_of rows b = found_kept (λ x. is_eq (mac_cmp x.address b)) (λ x. is_gt (mac_cmp x.address r.address)) (λ x h. ap is_gt (compares x r.address b h ∙ e)) rows in
      let here : mac_cmp r.address b ≡ Less = below_from_above b r.address e in
      let back : row_of (r ∷ rows_above rows r.address) b ≡ row_of rows b = rw here kept in
      parts ∙ ap (λ o. first_of o (row_of (r ∷ rows_above rows r.address) b)) dropped ∙ back

  by_order : (o : Ordering) → mac_cmp b r.address ≡ o → b ≢ r.address → row_of (with_row rows r) b ≡ row_of rows b
  by_order Less e other = below_it e
  by_order Equal e other = absurd (other (same_address b r.address e))
  by_order Greater e other = above_it e

-- each other address has the row that it had
others_keep : (rows : List LearnedRow) (r : LearnedRow) (b : Mac) → b ≢ r.address → row_of (with_row rows r) b ≡ row_of rows b
others_keep rows r b other = by_order rows r b (mac_cmp b r.address) refl other

-- and this one has its own
its_own : (rows : List LearnedRow) (r : LearnedRow) → row_of (with_row rows r) r.address ≡ Some r
its_own rows r =
    let a = r.address in
    let equal : mac_cmp a a ≡ Equal = tied_itself nat_list_cmp_total a.0 in
    let dropped : row_of (rows_below rows a) a ≡ None = found_dropped (λ x. is_eq (mac_cmp x.address a)) (λ x. is_lt (mac_cmp x.address a)) (λ x h. ap is_lt (is_equal _ h)) rows in
    let back : row_of (r ∷ rows_above rows a) a ≡ Some r = rw equal refl in
    parts rows r a ∙ ap (λ o. first_of o (row_of (r ∷ rows_above rows a) a)) dropped ∙ back

pub learned_others : (l : Learnt) (rows : List LearnedRow) (a : Mac) (port : ℕ) (b : Mac) → b ≢ a → row_of (learned_rows l rows a port) b ≡ row_of rows b
learned_others New rows a port b other = others_keep rows (new_row a port) b other
learned_others Moved rows a port b other = others_keep rows (new_row a port) b other
learned_others Same rows a port b other = others_keep rows (new_row a port) b other
learned_others Full rows a port b other = refl
learned_others Memory rows a port b other = refl

pub learned_here : (l : Learnt) (rows : List LearnedRow) (a : Mac) (port : ℕ) → l ≢ Full → l ≢ Memory → row_of (learned_rows l rows a port) a ≡ Some (new_row a port)
learned_here New rows a port full memory = its_own rows (new_row a port)
learned_here Moved rows a port full memory = its_own rows (new_row a port)
learned_here Same rows a port full memory = its_own rows (new_row a port)
learned_here Full rows a port full memory = absurd (full refl)
learned_here Memory rows a port full memory = absurd (memory refl)
