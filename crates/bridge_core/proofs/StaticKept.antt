-- Static rows are of a bridge's ports, and say something.
use Rattle.std.proofs.Common.{◌≡◌, ℕ, ◌-◌, ◌<◌, ◌≤◌, Bool, true, false, cond, List, [], ◌∷◌, ◌++◌, get_or, map, refl, ◌∙◌, arith}
use Rattle.std.specs.Prelude.{Some, filter, nat_lt}
use Rattle.std.specs.List.{AllByRecursion, range_with_len}
use Rattle.std.specs.Ordering.{is_eq}
use Rattle.std.proofs.lemmas.List.{get_or_past}
use Rattle.std.proofs.lemmas.List.FromFn.{length-map-range_with_len, get_or-map-range_with_len}
use Rattle.std.proofs.lemmas.Bool.Decides.{Decides-ltb}
use Rattle.fdb_core.specs.declared.static_row.StaticIndex.{StaticIndex}
use Rattle.fdb_core.specs.declared.static_row.StaticRow.{StaticRow}
use Rattle.fdb_core.specs.PortSets.{first_ports, IsOfPorts}
use Rattle.fdb_core.specs.Statics.{index_cmp, row_of, rows_below, rows_above, put_row, without_row, made_rows}
use Rattle.bridge_core.specs.Statics.{ports_of, says, rows_with, IsStaticRow, AreStaticRows}

-- the first ports are of so many
not_below : (i n : ℕ) (v : Bool) → nat_lt i n ≡ v → n ≤ i → v ≡ false
not_below i n false e h = refl
not_below i n true e h = absurd (let below : i < n = (Decides-ltb i n).0 e in omega arith)

past_first : (n i : ℕ) (v : Bool) → nat_lt i 32 ≡ v → n ≤ i → get_or (map (λ k. nat_lt k n) (range_with_len 0 32)) i false ≡ false
past_first n i true e h =
    let below : i < 32 = (Decides-ltb i 32).0 e in
    get_or-map-range_with_len (λ k. nat_lt k n) 0 32 i i false below (omega arith) ∙ not_below i n (nat_lt i n) refl h
past_first n i false e h =
    let beyond : 32 ≤ i = (let no : i < 32 → ⊥ = λ b. let t : nat_lt i 32 ≡ true = (Decides-ltb i 32).1 b in absurd cc in omega arith) in
    get_or_past (map (λ k. nat_lt k n) (range_with_len 0 32)) i false (omega (arith, length-map-range_with_len (λ k. nat_lt k n) 0 32))

pub first_of_ports : (n : ℕ) → IsOfPorts n (first_ports n)
first_of_ports n = record {
  size = length-map-range_with_len (λ k. nat_lt k n) 0 32;
  within = λ port h. past_first n (port - 1) (nat_lt (port - 1) 32) refl (omega arith);
}

-- and so are those of each row
found_ports : (n : ℕ) (x : StaticRow) (xs : List StaticRow) (i : StaticIndex) (v : Bool) → is_eq (index_cmp x.index i) ≡ v → IsStaticRow n x → IsOfPorts n (ports_of n (row_of xs i)) → IsOfPorts n (ports_of n (cond v (Some x) (row_of xs i)))
found_ports n x xs i true e h more = h.ports
found_ports n x xs i false e h more = more

pub allowed_ports : (n : ℕ) (rows : List StaticRow) (i : StaticIndex) → AreStaticRows n rows → IsOfPorts n (ports_of n (row_of rows i))
allowed_ports n [] i h = first_of_ports n
allowed_ports n (x ∷ xs) i h = found_ports n x xs i (is_eq (index_cmp x.index i)) refl h.0 (allowed_ports n xs i h.1)

-- what holds of each row holds of those that a filter keeps
kept_by : (P : StaticRow → Type 0) (p : StaticRow → Bool) (xs : List StaticRow) → AllByRecursion P xs → AllByRecursion P (filter p xs)
kept_by P p [] h = tt
kept_by P p (x ∷ xs) h =
    let more = kept_by P p xs h.1 in
    elim (p x) as (λ b. AllByRecursion P (cond b (x ∷ filter p xs) (filter p xs))) [ true ↦ (h.0, more) | false ↦ more ]

all_joined : (P : StaticRow → Type 0) (xs ys : List StaticRow) → AllByRecursion P xs → AllByRecursion P ys → AllByRecursion P (xs ++ ys)
all_joined P [] ys h k = k
all_joined P (x ∷ xs) ys h k = (h.0, all_joined P xs ys h.1 k)

pub kept_rows : (n : ℕ) (rows : List StaticRow) → AreStaticRows n rows → AreStaticRows n (made_rows rows)
kept_rows n rows h = kept_by (IsStaticRow n) (λ r. r.made) rows h

with_by : (n : ℕ) (row : StaticRow) (rows : List StaticRow) (v : Bool) → says n row.made row.ports ≡ v → IsOfPorts n row.ports → AreStaticRows n rows → AreStaticRows n (cond v (put_row rows row) (without_row rows row.index))
with_by n row rows true e ports h =
    all_joined (IsStaticRow n) (rows_below rows row.index) (row ∷ rows_above rows row.index) (kept_by (IsStaticRow n) _ rows h) (record { ports = ports; says = e }, kept_by (IsStaticRow n) _ rows h)
with_by n row rows false e ports h =
    all_joined (IsStaticRow n) (rows_below rows row.index) (rows_above rows row.index) (kept_by (IsStaticRow n) _ rows h) (kept_by (IsStaticRow n) _ rows h)

pub with_row : (n : ℕ) (row : StaticRow) (rows : List StaticRow) → IsOfPorts n row.ports → AreStaticRows n rows → AreStaticRows n (rows_with n row rows)
with_row n row rows ports h = with_by n row rows (says n row.made row.ports) refl ports h
