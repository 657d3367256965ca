-- What the learned rows show under an index, and behind it.
use Rattle.std.proofs.Common.{◌≡◌, ℕ, Bool, true, false, cond, List, [], ◌∷◌, find, Option, Some, None, IfSome, option_map, refl, sym, ap, ◌∙◌, arith}
use Rattle.std.specs.Prelude.{slice_get}
use Rattle.std.specs.Ordering.{is_gt, is_eq, nat_cmp}
use Rattle.std.specs.Cmp.Lexicographic.{slice_cmp}
use Rattle.std.specs.declared.cmp.Ordering.{Ordering}
use Rattle.std.proofs.lemmas.Bool.Decides.{nat_tests}
use Rattle.std.proofs.lemmas.Cmp.{same_from_slice_cmp}
use Rattle.frame_core.specs.declared.mac.Mac.{Mac}
use Rattle.frame_core.specs.Octets.{mac_cmp}
use Rattle.fdb_core.specs.declared.row.LearnedRow.{LearnedRow}
use Rattle.fdb_core.specs.Rows.{IsAddress, HaveAddresses, row_of, port_of, rows_above, next_after}
use Rattle.oid_core.specs.Order.{name_lt, name_eq}
use Rattle.oid_core.proofs.OrderLaws.{eq_same}
use Rattle.message_core.specs.declared.value.Value.{Value}
use Rattle.setphase_core.specs.Values.{IndexedValue, by_address, value_at, index_after}

-- ---- under an index

pub no_value_at : (rows : List LearnedRow) (f : LearnedRow → Value) (at : List ℕ) → HaveAddresses rows → ((a : Mac) → IsAddress a → name_eq a.0 at ≡ false) → None ≡ value_at (by_address rows f) at
no_value_at [] f at all none = refl
no_value_at (r ∷ rows) f at all none =
    let no : name_eq r.address.0 at ≡ false = none r.address all.0 in
    rw no (no_value_at rows f at all.1 none)

eq_test : (a b : List ℕ) (o : Ordering) → o ≡ slice_cmp nat_cmp a b → is_eq o ≡ name_eq a b
eq_test = same_from_slice_cmp nat_cmp is_eq name_eq refl (λ _ _. refl) (λ _ _. refl) (λ x y xs ys o h. grind (arith, nat_tests))

-- the same test finds the row
found : (rows : List LearnedRow) (f : LearnedRow → Value) (a : Mac) → value_at (by_address rows f) a.0 ≡ option_map f (row_of rows a)
found [] f a = refl
found (r ∷ rows) f a = rw (eq_test r.address.0 a.0 (mac_cmp r.address a) refl) (pick (name_eq r.address.0 a.0) (found rows f a))
  where
    pick : (b : Bool) → value_at (by_address rows f) a.0 ≡ option_map f (row_of rows a)
        → option_map (λ (s : IndexedValue). s.value) (cond b (Some (record { index = r.address.0; value = f r })) (find (λ s. name_eq s.index a.0) (by_address rows f))) ≡ option_map f (cond b (Some r) (row_of rows a))
    pick true rest = refl
    pick false rest = rest

pub no_value_for : (rows : List LearnedRow) (f : LearnedRow → Value) (a : Mac) (at : List ℕ) → a.0 ≡ at → None ≡ port_of rows a → None ≡ value_at (by_address rows f) at
no_value_for rows f a at e none = none_of (row_of rows a) none ∙ sym (ap (value_at (by_address rows f)) (sym e) ∙ found rows f a)
  where
    none_of : (o : Option LearnedRow) → None ≡ option_map (λ (r : LearnedRow). r.port) o → None ≡ option_map f o
    none_of None h = refl
    none_of (Some r) h = absurd cc

-- the row that is found has the address
has_address : (rows : List LearnedRow) (a : Mac) → IfSome (row_of rows a) (λ r. r.address ≡ a)
has_address [] a = tt
has_address (r ∷ rows) a = pick (is_eq (mac_cmp r.address a)) refl (has_address rows a)
  where
    of : List ℕ → Mac
    of octets = record { 0 = octets }

    pick : (b : Bool) → is_eq (mac_cmp r.address a) ≡ b → IfSome (row_of rows a) (λ x. x.address ≡ a) → IfSome (cond b (Some r) (row_of rows a)) (λ x. x.address ≡ a)
    pick true e rest = ap of (eq_same r.address.0 a.0 (sym (eq_test r.address.0 a.0 (mac_cmp r.address a) refl) ∙ e))
    pick false e rest = rest

pub value_for : (rows : List LearnedRow) (f : LearnedRow → Value) (a : Mac) (at : List ℕ) (port : ℕ) (v : Value) → a.0 ≡ at → Some port ≡ port_of rows a → ((r : LearnedRow) → r.address ≡ a → r.port ≡ port → v ≡ f r) → Some v ≡ value_at (by_address rows f) at
value_for rows f a at port v e is says = of_row (row_of rows a) (has_address rows a) is ∙ sym (ap (value_at (by_address rows f)) (sym e) ∙ found rows f a)
  where
    of_row : (o : Option LearnedRow) → IfSome o (λ r. r.address ≡ a) → Some port ≡ option_map (λ (r : LearnedRow). r.port) o → Some v ≡ option_map f o
    of_row None h k = absurd cc
    of_row (Some r) h k =
        let same : r.port ≡ port = cc in
        ap (λ (x : Value). Some x) (says r h same)

-- ---- behind an index

pub next_behind : (rows : List LearnedRow) (f : LearnedRow → Value) (after : List ℕ) (last : Option Mac) → HaveAddresses rows → IfSome last (λ m. (a : Mac) → IsAddress a → name_lt after a.0 ≡ is_gt (mac_cmp a m)) → (last ≡ None → (a : Mac) → IsAddress a → name_lt after a.0 ≡ true)
    → option_map (λ (r : LearnedRow). r.address.0) (next_after rows last) ≡ index_after (by_address rows f) (Some after)
next_behind [] f after None all found none = refl
next_behind (r ∷ rows) f after None all found none =
    let yes : name_lt after r.address.0 ≡ true = none refl r.address all.0 in
    rw yes refl
next_behind [] f after (Some m) all found none = refl
next_behind (r ∷ rows) f after (Some m) all found none =
    let test : name_lt after r.address.0 ≡ is_gt (mac_cmp r.address m) = found r.address all.0 in
    rw test (pick (is_gt (mac_cmp r.address m)) (next_behind rows f after (Some m) all.1 found none))
  where
    pick : (b : Bool) → option_map (λ (x : LearnedRow). x.address.0) (next_after rows (Some m)) ≡ index_after (by_address rows f) (Some after)
        → option_map (λ (x : LearnedRow). x.address.0) (slice_get (cond b (r ∷ rows_above rows m) (rows_above rows m)) 0) ≡ option_map (λ (s : IndexedValue). s.index) (cond b (Some (record { index = r.address.0; value = f r })) (find (λ s. name_lt after s.index) (by_address rows f)))
    pick true rest = refl
    pick false rest = rest
