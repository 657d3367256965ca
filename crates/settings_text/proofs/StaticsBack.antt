-- Static rows that are written are read again.
use Rattle.std.proofs.Common.{◌≡◌, ℕ, zero, suc, ◌+◌, ◌-◌, ◌*◌, ◌≤◌, ◌<◌, Bool, true, false, not, ◌&&◌, ◌||◌, cond, nat_le, nat_lt, List, [], ◌∷◌, ◌++◌, map, filter, length, codes, get_or, Option, Some, None, Result, Ok, Ordering, Less, refl, sym, ap, ◌∙◌, arith, inl, inr}
use Rattle.std.specs.Prelude.{◌==◌}
use Rattle.std.specs.List.{AllByRecursion, range_with_len, list_any, list_all}
use Rattle.std.specs.List.Sorted.{IsStrictlySortedBy}
use Rattle.std.specs.Cmp.Lexicographic.{slice_cmp}
use Rattle.std.specs.Ordering.{nat_cmp, is_lt}
use Rattle.std.specs.Option.{option_map, ok_or}
use Rattle.std.specs.Result.{result_ok}
use Rattle.std.proofs.lemmas.Bool.{cases_Bool}
use Rattle.std.proofs.lemmas.Bool.Decides.{nat_tests}
use Rattle.std.proofs.lemmas.List.FromFn.{fill_by_all}
use Rattle.hex.specs.Hex.{decode_sized, encode_upper, upper_digits, IsBytes}
use Rattle.hex.proofs.HexLemmas.{decode_sized-twice, decode_of-encode_upper, length-encode_with}
use Rattle.frame_core.specs.declared.mac.Mac.{Mac}
use Rattle.fdb_core.specs.Rows.{IsAddress}
use Rattle.fdb_core.specs.PortSets.{has_port, IsOfPorts}
use Rattle.fdb_core.specs.Statics.{numbers_of, index_cmp, IsRising}
use Rattle.fdb_core.specs.declared.port_set.PortSet.{PortSet}
use Rattle.fdb_core.specs.declared.static_row.StaticIndex.{StaticIndex}
use Rattle.fdb_core.specs.declared.static_row.StaticRow.{StaticRow}
use Rattle.bridge_core.specs.Bridge.{BridgeState, port_count}
use Rattle.setphase_core.specs.Writing.{may_have_row}
use Rattle.toml.specs.Data.{Data, Members, no_members, get_member, as_array, as_str, as_integer}
use Rattle.toml.specs.View.{items_of}
use Rattle.policy_text.specs.Keys.{list_of, array_at, string_at}
use Rattle.policy_text.specs.Reading.{◌>=>◌}
use Rattle.settings_text.specs.Results.{◌>!>◌}
use Rattle.settings_text.specs.Numbers.{number_between, number_at}
use Rattle.settings_text.specs.Settings.{IsKeptRow}
use Rattle.settings_text.specs.KnownKeys.{are_keys}
use Rattle.settings_text.specs.Writing.{number, rows, address_text, ports_of_set, static_entries, static_members, static_data}
use Rattle.settings_text.specs.StaticRows.{is_static_row_key, address_in, address_at, static_index, rising_index, listed_port, is_listed, lists_port, set_of_listed, if_listed, static_ports, static_row, static_rows}
use Rattle.settings_text.specs.declared.fault.StaticRowKey.{StaticRowKey}
use Rattle.settings_text.specs.declared.fault.StaticRowKey.TheVariants.{Ports}
use Rattle.settings_text.specs.declared.fault.SettingsFault.{SettingsFault}
use Rattle.settings_text.proofs.Lookups.{found_entries, keys_entries}
use Rattle.settings_text.proofs.StaticIndexes.{has_it}
use Rattle.settings_text.proofs.Values.{between}

bytes_of : (xs : List ℕ) → AllByRecursion (λ o. o < 256) xs → IsBytes xs
bytes_of [] h i = omega arith
bytes_of (x ∷ xs) h zero = h.0
bytes_of (x ∷ xs) h (suc i) = bytes_of xs h.1 i

pub address_back : (a : Mac) → IsAddress a → address_in (encode_upper a.0) ≡ Some a
address_back a h =
    let size : length (encode_upper a.0) ≡ 2 * 6 = length-encode_with upper_digits a.0 ∙ ap (λ n. 2 * n) h.six in
    let digits : decode_sized (encode_upper a.0) 6 ≡ Ok a.0 = decode_sized-twice (encode_upper a.0) 6 size ∙ decode_of-encode_upper a.0 (bytes_of a.0 h.octets) in
    ap (λ r. result_ok r >=> (λ octets. Some (record { 0 = octets }))) digits

pub listed : (ds : List Data) → list_of (items_of ds) ≡ ds
listed [] = refl
listed (d ∷ ds) = ap (λ xs. d ∷ xs) (listed ds)

-- ---- the set of ports

-- the ports of the set are of so many
abbrev AreOf : ℕ → (ℕ → Bool) → Type 0
AreOf count p = (n : ℕ) → p n ≡ true → n ≤ count

listed_number : (count n : ℕ) → 1 ≤ n → n ≤ count → listed_port count (number n) ≡ Some n
listed_number count n least most = between 1 count n least most

all_listed : (count a n : ℕ) (p : ℕ → Bool) → 1 ≤ a → AreOf count p → list_all (λ d. is_listed (listed_port count d)) (map number (filter p (range_with_len a n))) ≡ true
all_listed count a zero p least within = refl
all_listed count a (suc n) p least within =
    elim (cases_Bool (p a)) [
      | inl there ↦ rw (there, listed_number count a least (within a there)) (all_listed count (a + 1) n p (omega (arith, least)) within)
      | inr away ↦ rw away (all_listed count (a + 1) n p (omega (arith, least)) within)
    ]

or_left : (b : Bool) → (true || b) ≡ true
or_left b = refl

none_listed : (count a n q : ℕ) (p : ℕ → Bool) → 1 ≤ a → q < a → AreOf count p → list_any (λ d. lists_port q (listed_port count d)) (map number (filter p (range_with_len a n))) ≡ false
none_listed count a zero q p least below within = refl
none_listed count a (suc n) q p least below within =
    let other : (a == q) ≡ false = grind (arith, nat_tests, below) in
    elim (cases_Bool (p a)) [
      | inl there ↦ rw (there, listed_number count a least (within a there), other) (none_listed count (a + 1) n q p (omega (arith, least)) (omega (arith, below)) within)
      | inr away ↦ rw away (none_listed count (a + 1) n q p (omega (arith, least)) (omega (arith, below)) within)
    ]

any_listed : (count a n q : ℕ) (p : ℕ → Bool) → 1 ≤ a → a ≤ q → q < a + n → AreOf count p → list_any (λ d. lists_port q (listed_port count d)) (map number (filter p (range_with_len a n))) ≡ p q
any_listed count a zero q p least from below within = absurd (omega (arith, from, below))
any_listed count a (suc n) q p least from below within =
    elim (cases_Bool (a == q)) [
      | inl same ↦
          let is : a ≡ q = grind (arith, nat_tests, same) in
          elim (cases_Bool (p a)) [
            | inl there ↦ rw (there, listed_number count a least (within a there), same) (sym there ∙ ap p is)
            | inr away ↦ rw away (none_listed count (a + 1) n q p (omega (arith, least)) (omega (arith, is)) within ∙ (sym away ∙ ap p is))
          ]
      | inr other ↦
          let above : a + 1 ≤ q = grind (arith, nat_tests, other, from) in
          let more = any_listed count (a + 1) n q p (omega (arith, least)) above (omega (arith, below)) within in
          elim (cases_Bool (p a)) [
            | inl there ↦ rw (there, listed_number count a least (within a there), other) more
            | inr away ↦ rw away more
          ]
    ]

within_count : (count : ℕ) (s : PortSet) → IsOfPorts count s → AreOf count (has_port s)
within_count count s h n there =
    elim (cases_Bool (nat_le n count)) [
      | inl few ↦ grind (arith, nat_tests, few)
      | inr many ↦
          let above : count < n = grind (arith, nat_tests, many) in
          let away = h.within n above in
          absurd (cc (there, away))
    ]

set_back : (count : ℕ) (s : PortSet) → IsOfPorts count s → set_of_listed count (map number (ports_of_set s)) ≡ s
set_back count s h =
    let of : List Bool → PortSet = λ ports. record { 0 = ports } in
    let back : (k : ℕ) → (k + 1) - 1 ≡ k = λ k. omega arith in
    ap of (sym (fill_by_all (λ k. list_any (λ d. lists_port (k + 1) (listed_port count d)) (map number (ports_of_set s))) s.0 32 false h.size
    (λ k lt. sym (any_listed count 1 32 (k + 1) (has_port s) (omega arith) (omega arith) (omega (arith, lt)) (within_count count s h) ∙ ap (λ n. get_or s.0 n false) (back k)))))

array_there : (row : StaticRow) → array_at (codes "ports") (static_members row) ≡ Some (map number (ports_of_set row.ports))
array_there row =
    ap (λ o. option_map list_of (o >=> as_array)) (found_entries (codes "ports") (static_entries row) no_members) ∙ ap Some (listed (map number (ports_of_set row.ports)))

if_all : (t : Bool) (s r : PortSet) → t ≡ true → s ≡ r → cond t (Some s) None ≡ Some r
if_all t s r all same = rw all (ap Some same)

ports_back : (count : ℕ) (row : StaticRow) → IsOfPorts count row.ports → static_ports count (static_members row) ≡ Ok row.ports
ports_back count row h =
    let ds : List Data = map number (ports_of_set row.ports) in
    let kept : if_listed count ds ≡ Some row.ports =
    if_all (list_all (λ d. is_listed (listed_port count d)) ds) (set_of_listed count ds) row.ports (all_listed count 1 32 (has_port row.ports) (omega arith) (within_count count row.ports h)) (set_back count row.ports h) in
    ap (λ o. ok_or (o >=> if_listed count) Ports) (array_there row) ∙ ap (λ o. ok_or o Ports) kept

-- ---- the rows

index_back : (b : BridgeState) (row : StaticRow) → IsKeptRow b row → static_index b (static_members row) ≡ Ok row.index
index_back b row h =
    let ms = static_members row in
    let address : address_at ms ≡ Some row.index.address =
    ap (λ o. o >=> as_str >=> address_in) (found_entries (codes "address") (static_entries row) no_members) ∙ address_back row.index.address h.index.address in
    let port : number_at (codes "port") 0 (port_count b) ms ≡ Some row.index.port =
    ap (λ o. o >=> as_integer >=> number_between 0 (port_count b)) (found_entries (codes "port") (static_entries row) no_members) ∙ between 0 (port_count b) row.index.port (omega arith) h.index.port in
    rw (address, port, has_it b row.index h.index) refl

keys_back : (row : StaticRow) → are_keys is_static_row_key (static_members row) ≡ true
keys_back row = keys_entries is_static_row_key (static_entries row) no_members (refl, (refl, (refl, tt))) refl

row_back : (b : BridgeState) (before : List ℕ) (row : StaticRow) → slice_cmp nat_cmp before (numbers_of row.index) ≡ Less → IsKeptRow b row → static_row b before (static_data row) ≡ Ok row
row_back b before row above h =
    rw (index_back b row h, above, ports_back (port_count b) row h.ports, keys_back row, ← h.made) refl

abbrev pub IsAbove : List ℕ → List StaticRow → Type 0
IsAbove before rs = AllByRecursion (λ row. slice_cmp nat_cmp before (numbers_of row.index) ≡ Less) rs

pub statics_back : (b : BridgeState) (place : ℕ) (before : List ℕ) (rs : List StaticRow) → IsAbove before rs → AllByRecursion (IsKeptRow b) rs → IsRising rs
    → static_rows b place before (map static_data rs) ≡ Ok rs
unfolding IsStrictlySortedBy
statics_back b place before [] above all rising = refl
statics_back b place before (row ∷ rs) above all rising =
    rw (row_back b before row above.0 all.0, statics_back b (place + 1) (numbers_of row.index) rs rising.0 all.1 rising.1) refl

least_of : (xs : List ℕ) (n : ℕ) → slice_cmp nat_cmp [] (xs ++ n ∷ []) ≡ Less
least_of [] n = refl
least_of (x ∷ xs) n = refl

nothing_above : (rs : List StaticRow) → IsAbove [] rs
nothing_above [] = tt
nothing_above (row ∷ rs) = (least_of row.index.address.0 row.index.port, nothing_above rs)

pub all_statics_back : (b : BridgeState) (rs : List StaticRow) → AllByRecursion (IsKeptRow b) rs → IsRising rs → static_rows b 0 [] (map static_data rs) ≡ Ok rs
all_statics_back b rs all rising = statics_back b 0 [] rs (nothing_above rs) all rising
