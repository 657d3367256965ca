-- What stands under the keys of a table that was built by its members.
use Rattle.std.proofs.Common.{◌≡◌, ℕ, Bool, true, false, ◌&&◌, cond, List, [], ◌∷◌, Option, Some, None, Ordering, Less, Equal, Greater, nat_cmp, is_eq, refl, sym, ap, ◌∙◌}
use Rattle.std.proofs.lemmas.Cmp.{nat_list_cmp_total}
use Rattle.std.proofs.lemmas.Map.Lookups.{exact_bytes}
use Rattle.std.specs.Cmp.Lexicographic.{slice_cmp}
use Rattle.std.specs.Ordering.{match_ordering, ordering_reverse}
use Rattle.std.specs.Option.{option_or}
use Rattle.toml.specs.Data.{Data, Members, no_members, member, get_member, same_key}
use Rattle.settings_text.specs.Building.{with_member, with_optional, with_entries}
use Rattle.settings_text.specs.KnownKeys.{are_keys}

first : (o : Ordering) (d : Data) (m : Option Data) → match_ordering o m (Some d) m ≡ cond (is_eq o) (Some d) m
first Less d m = refl
first Equal d m = refl
first Greater d m = refl

replaced : (o : Ordering) (d e : Data) (m : Option Data) → match_ordering o m (Some d) m ≡ cond (is_eq o) (Some d) (match_ordering o m (Some e) m)
replaced Less d e m = refl
replaced Equal d e m = refl
replaced Greater d e m = refl

-- behind a key that is another one
behind : (o : Ordering) (same : Bool) (d e : Data) (m n : Option Data) → (o ≡ Equal → same ≡ false) → n ≡ cond same (Some d) m → match_ordering o n (Some e) n ≡ cond same (Some d) (match_ordering o m (Some e) m)
behind Less same d e m n other is = is
behind Equal same d e m n other is = rw (other refl) refl
behind Greater same d e m n other is = is

below_other : (j k l : List ℕ) → slice_cmp nat_cmp k l ≡ Greater → slice_cmp nat_cmp j l ≡ Equal → same_key j k ≡ false
below_other j k l above is =
    let turned : slice_cmp nat_cmp l k ≡ Less = nat_list_cmp_total.antisymm l k ∙ ap ordering_reverse above in
    rw (exact_bytes j l is, turned) refl

step : (o : Ordering) (j k l : List ℕ) (d e : Data) (ms : Members) → slice_cmp nat_cmp k l ≡ o → get_member j (with_member k d ms) ≡ cond (same_key j k) (Some d) (get_member j ms)
    → get_member j (match_ordering o (member k d (member l e ms)) (member l d ms) (member l e (with_member k d ms))) ≡ cond (same_key j k) (Some d) (get_member j (member l e ms))
step Less j k l d e ms is ih = first (slice_cmp nat_cmp j k) d (get_member j (member l e ms))
step Equal j k l d e ms is ih = rw (exact_bytes k l is) (replaced (slice_cmp nat_cmp j l) d e (get_member j ms))
step Greater j k l d e ms is ih = behind (slice_cmp nat_cmp j l) (same_key j k) d e (get_member j ms) _ (below_other j k l is) ih

pub found_with : (j k : List ℕ) (d : Data) (ms : Members) → get_member j (with_member k d ms) ≡ cond (same_key j k) (Some d) (get_member j ms)
found_with j k d no_members = first (slice_cmp nat_cmp j k) d None
found_with j k d (member l e ms) = step (slice_cmp nat_cmp k l) j k l d e ms refl (found_with j k d ms)

-- the value at a key: that of the first entry with it, or else that of the members
abbrev pub found : List ℕ → List (List ℕ × Option Data) → Members → Option Data
found j [] ms = get_member j ms
found j (entry ∷ entries) ms =
    cond (same_key j entry.0) (option_or entry.1 (found j entries ms)) (found j entries ms)

or_none : (same : Bool) (m : Option Data) → m ≡ cond same m m
or_none true m = refl
or_none false m = refl

found_optional : (j k : List ℕ) (o : Option Data) (ms : Members) → get_member j (with_optional k o ms) ≡ cond (same_key j k) (option_or o (get_member j ms)) (get_member j ms)
found_optional j k None ms = or_none (same_key j k) (get_member j ms)
found_optional j k (Some d) ms = found_with j k d ms

pub found_entries : (j : List ℕ) (entries : List (List ℕ × Option Data)) (ms : Members) → get_member j (with_entries entries ms) ≡ found j entries ms
found_entries j [] ms = refl
found_entries j (entry ∷ entries) ms =
    found_optional j entry.0 entry.1 (with_entries entries ms)
    ∙ ap (λ m. cond (same_key j entry.0) (option_or entry.1 m) m) (found_entries j entries ms)

-- ---- known keys

both_same : (a b : Bool) → (a && b) ≡ (a && (a && b))
both_same true b = refl
both_same false b = refl

turned_about : (a b c : Bool) → (a && (b && c)) ≡ (b && (a && c))
turned_about true true c = refl
turned_about true false c = refl
turned_about false true c = refl
turned_about false false c = refl

keys_step : (o : Ordering) (test : List ℕ → Bool) (k l : List ℕ) (d e : Data) (ms : Members) → slice_cmp nat_cmp k l ≡ o → are_keys test (with_member k d ms) ≡ (test k && are_keys test ms)
    → are_keys test (match_ordering o (member k d (member l e ms)) (member l d ms) (member l e (with_member k d ms))) ≡ (test k && are_keys test (member l e ms))
keys_step Less test k l d e ms is ih = refl
keys_step Equal test k l d e ms is ih = rw (exact_bytes k l is) (both_same (test l) (are_keys test ms))
keys_step Greater test k l d e ms is ih = rw ih (turned_about (test l) (test k) (are_keys test ms))

pub keys_with : (test : List ℕ → Bool) (k : List ℕ) (d : Data) (ms : Members) → are_keys test (with_member k d ms) ≡ (test k && are_keys test ms)
keys_with test k d no_members = refl
keys_with test k d (member l e ms) = keys_step (slice_cmp nat_cmp k l) test k l d e ms refl (keys_with test k d ms)

keys_optional : (test : List ℕ → Bool) (k : List ℕ) (o : Option Data) (ms : Members) → test k ≡ true → are_keys test ms ≡ true → are_keys test (with_optional k o ms) ≡ true
keys_optional test k None ms known rest = rest
keys_optional test k (Some d) ms known rest = keys_with test k d ms ∙ rw (known, rest) refl

abbrev pub AreKnown : (List ℕ → Bool) → List (List ℕ × Option Data) → Type 0
AreKnown test [] = Unit {0}
AreKnown test (entry ∷ entries) = (test entry.0 ≡ true) × AreKnown test entries

pub keys_entries : (test : List ℕ → Bool) (entries : List (List ℕ × Option Data)) (ms : Members) → AreKnown test entries → are_keys test ms ≡ true → are_keys test (with_entries entries ms) ≡ true
keys_entries test [] ms known rest = rest
keys_entries test (entry ∷ entries) ms known rest =
    keys_optional test entry.0 entry.1 _ known.0 (keys_entries test entries ms known.1 rest)
