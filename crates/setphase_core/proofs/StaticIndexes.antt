-- The static row that an index names is one that the bridge may have.
use Rattle.std.proofs.Common.{◌≡◌, ◌≢◌, ◌↔◌, ℕ, zero, suc, ◌<◌, Bool, true, false, not, ◌&&◌, cond, nat_le, nat_lt, List, [], ◌∷◌, length, slice_index_or, refl, sym, ap, ◌∙◌, arith, Some, None, IfSome, IsTrue}
use Rattle.std.specs.List.{AllByRecursion}
use Rattle.std.proofs.lemmas.Bool.{and_parts}
use Rattle.std.proofs.lemmas.Bool.Decides.{nat_tests}
use Rattle.std.proofs.lemmas.Slice.Eq.{bytes_eq-Decides}
use Rattle.frame_core.specs.declared.mac.Mac.{Mac}
use Rattle.frame_core.specs.Octets.{same_mac}
use Rattle.fdb_core.specs.declared.static_row.StaticIndex.{StaticIndex}
use Rattle.fdb_core.specs.Rows.{IsAddress}
use Rattle.bridge_core.specs.Bridge.{BridgeState, address_of, port_count}
use Rattle.bridge_core.specs.Forwarding.{is_reserved}
use Rattle.bridge_core.specs.StaticIndexes.{IsStaticIndex}
use Rattle.setphase_core.specs.Writing.{are_octets, may_have_row, row_named, static_index}

none_true : (b : Bool) → not b ≡ true → b ≡ false
none_true true e = absurd (cc)
none_true false e = refl

both_fail : (b : Bool) → b ≡ true → not b ≡ true → ⊥
both_fail true e f = cc
both_fail false e f = cc

octets_from : (numbers : List ℕ) → are_octets numbers ≡ true → AllByRecursion (λ o. o < 256) numbers
octets_from [] e = tt
octets_from (n ∷ numbers) e =
    let both = and_parts (nat_lt n 256) (are_octets numbers) e in
    (grind (arith, nat_tests, both.0), octets_from numbers both.1)

octets_to : (numbers : List ℕ) → AllByRecursion (λ o. o < 256) numbers → are_octets numbers ≡ true
octets_to [] h = refl
octets_to (n ∷ numbers) h =
    let here : nat_lt n 256 ≡ true = grind (arith, nat_tests, h.0) in
    rw here (octets_to numbers h.1)

-- what the test of an index says
may_have_it : (b : BridgeState) (i : StaticIndex) → IsAddress i.address → may_have_row b i ≡ true → IsStaticIndex b i
may_have_it b i address e =
    let place = and_parts (nat_le i.port (port_count b)) _ e in
    let away = and_parts (not (same_mac i.address (address_of b))) (not (is_reserved i.address)) place.1 in
    record {
      address = address;
      port = grind (arith, nat_tests, place.0);
      foreign = λ same. both_fail (same_mac i.address (address_of b)) ((bytes_eq-Decides i.address.0 (address_of b).0).1 (ap (λ (a : Mac). a.0) same)) away.0;
      unreserved = none_true (is_reserved i.address) away.1;
    }

has_it : (b : BridgeState) (i : StaticIndex) → IsStaticIndex b i → may_have_row b i ≡ true
has_it b i h =
    let port : nat_le i.port (port_count b) ≡ true = grind (arith, nat_tests, h.port) in
    let other : same_mac i.address (address_of b) ≡ false = differs (same_mac i.address (address_of b)) refl in
    rw port (rw other (rw h.unreserved refl))
  where
    of : List ℕ → Mac
    of octets = record { 0 = octets }

    differs : (v : Bool) → same_mac i.address (address_of b) ≡ v → v ≡ false
    differs false e = refl
    differs true e = absurd (h.foreign (ap of ((bytes_eq-Decides i.address.0 (address_of b).0).0 e)))

named : (b : BridgeState) (octets : List ℕ) (i : StaticIndex) → length octets ≡ 6 → i.address.0 ≡ octets →
    IfSome (row_named b octets i) (IsStaticIndex b)
named b octets i six is = pick (are_octets octets && may_have_row b i) refl
  where
    pick : (t : Bool) → (are_octets octets && may_have_row b i) ≡ t → IfSome (cond t (Some i) None) (IsStaticIndex b)
    pick false e = tt
    pick true e =
        let both = and_parts (are_octets octets) (may_have_row b i) e in
        may_have_it b i (record {
          six = ap (length {A = ℕ}) is ∙ six;
          octets = octets_from i.address.0 (ap are_octets is ∙ both.0);
        }) both.1

pub named_is_index : (b : BridgeState) (at : List ℕ) → IfSome (static_index b at) (IsStaticIndex b)
named_is_index b [] = tt
named_is_index b (o1 ∷ []) = tt
named_is_index b (o1 ∷ o2 ∷ []) = tt
named_is_index b (o1 ∷ o2 ∷ o3 ∷ []) = tt
named_is_index b (o1 ∷ o2 ∷ o3 ∷ o4 ∷ []) = tt
named_is_index b (o1 ∷ o2 ∷ o3 ∷ o4 ∷ o5 ∷ []) = tt
named_is_index b (o1 ∷ o2 ∷ o3 ∷ o4 ∷ o5 ∷ o6 ∷ []) = tt
named_is_index b (o1 ∷ o2 ∷ o3 ∷ o4 ∷ o5 ∷ o6 ∷ p ∷ []) =
    named b (o1 ∷ o2 ∷ o3 ∷ o4 ∷ o5 ∷ o6 ∷ []) (record { address = record { 0 = o1 ∷ o2 ∷ o3 ∷ o4 ∷ o5 ∷ o6 ∷ [] }; port = p }) refl refl
named_is_index b (o1 ∷ o2 ∷ o3 ∷ o4 ∷ o5 ∷ o6 ∷ p ∷ more ∷ at) = tt

-- other than seven numbers name none
pub not_seven : (b : BridgeState) (at : List ℕ) → length at ≢ 7 → static_index b at ≡ None
not_seven b [] other = refl
not_seven b (o1 ∷ []) other = refl
not_seven b (o1 ∷ o2 ∷ []) other = refl
not_seven b (o1 ∷ o2 ∷ o3 ∷ []) other = refl
not_seven b (o1 ∷ o2 ∷ o3 ∷ o4 ∷ []) other = refl
not_seven b (o1 ∷ o2 ∷ o3 ∷ o4 ∷ o5 ∷ []) other = refl
not_seven b (o1 ∷ o2 ∷ o3 ∷ o4 ∷ o5 ∷ o6 ∷ []) other = refl
not_seven b (o1 ∷ o2 ∷ o3 ∷ o4 ∷ o5 ∷ o6 ∷ p ∷ []) other = absurd (other refl)
not_seven b (o1 ∷ o2 ∷ o3 ∷ o4 ∷ o5 ∷ o6 ∷ p ∷ more ∷ at) other = refl

pub no_octets : (b : BridgeState) (octets : List ℕ) (i : StaticIndex) → are_octets octets ≡ false → row_named b octets i ≡ None
no_octets b octets i e = rw e refl

pub no_port : (b : BridgeState) (octets : List ℕ) (i : StaticIndex) → port_count b < i.port → row_named b octets i ≡ None
no_port b octets i more =
    let no : nat_le i.port (port_count b) ≡ false = grind (arith, nat_tests, more) in
    rw no (pick (are_octets octets))
  where
    pick : (t : Bool) → cond (t && false) (Some i) None ≡ None
    pick true = refl
    pick false = refl

-- whether there may be a row of an index of octets is what a test of it says
pub named_by : (b : BridgeState) (octets : List ℕ) (i : StaticIndex) (r : Bool) → are_octets octets ≡ true → i.address.0 ≡ octets → length octets ≡ 6 →
    (IsTrue r ↔ IsStaticIndex b i) → cond r (Some i) None ≡ row_named b octets i
named_by b octets i r are is six says = rw are (ap (λ (t : Bool). cond t (Some i) None) (same r says))
  where
    address : IsAddress i.address
    address = record {
      six = ap (length {A = ℕ}) is ∙ six;
      octets = octets_from i.address.0 (ap are_octets is ∙ are);
    }

    same : (r : Bool) → (IsTrue r ↔ IsStaticIndex b i) → r ≡ may_have_row b i
    same true says = sym (has_it b i (says.0 refl))
    same false says = other (may_have_row b i) refl
      where
        other : (t : Bool) → may_have_row b i ≡ t → false ≡ t
        other false e = refl
        other true e = let is : false ≡ true = says.1 (may_have_it b i address e) in absurd (cc)

-- ---- seven numbers

-- The first six of some numbers.
abbrev pub six_of : List ℕ → List ℕ
six_of at =
    slice_index_or at 0 0 ∷ slice_index_or at 1 0 ∷ slice_index_or at 2 0
    ∷ slice_index_or at 3 0 ∷ slice_index_or at 4 0 ∷ slice_index_or at 5 0 ∷ []

abbrev pub index_by : List ℕ → StaticIndex
index_by at = record { address = record { 0 = six_of at }; port = slice_index_or at 6 0 }

pub by_seven : (b : BridgeState) (at : List ℕ) → length at ≡ 7 →
    static_index b at ≡ row_named b (six_of at) (index_by at)
by_seven b [] e = absurd (cc)
by_seven b (o1 ∷ []) e = absurd (omega (arith, e))
by_seven b (o1 ∷ o2 ∷ []) e = absurd (omega (arith, e))
by_seven b (o1 ∷ o2 ∷ o3 ∷ []) e = absurd (omega (arith, e))
by_seven b (o1 ∷ o2 ∷ o3 ∷ o4 ∷ []) e = absurd (omega (arith, e))
by_seven b (o1 ∷ o2 ∷ o3 ∷ o4 ∷ o5 ∷ []) e = absurd (omega (arith, e))
by_seven b (o1 ∷ o2 ∷ o3 ∷ o4 ∷ o5 ∷ o6 ∷ []) e = absurd (omega (arith, e))
by_seven b (o1 ∷ o2 ∷ o3 ∷ o4 ∷ o5 ∷ o6 ∷ p ∷ []) e = refl
by_seven b (o1 ∷ o2 ∷ o3 ∷ o4 ∷ o5 ∷ o6 ∷ p ∷ more ∷ at) e = absurd (omega (arith, e))

pub six_again : (octets : List ℕ) → length octets ≡ 6 → six_of octets ≡ octets
six_again [] e = absurd (cc)
six_again (o1 ∷ []) e = absurd (omega (arith, e))
six_again (o1 ∷ o2 ∷ []) e = absurd (omega (arith, e))
six_again (o1 ∷ o2 ∷ o3 ∷ []) e = absurd (omega (arith, e))
six_again (o1 ∷ o2 ∷ o3 ∷ o4 ∷ []) e = absurd (omega (arith, e))
six_again (o1 ∷ o2 ∷ o3 ∷ o4 ∷ o5 ∷ []) e = absurd (omega (arith, e))
six_again (o1 ∷ o2 ∷ o3 ∷ o4 ∷ o5 ∷ o6 ∷ []) e = refl
six_again (o1 ∷ o2 ∷ o3 ∷ o4 ∷ o5 ∷ o6 ∷ p ∷ more) e = absurd (omega (arith, e))

pub octet_below : (octets : List ℕ) (k : ℕ) → are_octets octets ≡ true → slice_index_or octets k 0 < 256
octet_below [] k e = omega arith
octet_below (o ∷ octets) zero e =
    let both = and_parts (nat_lt o 256) (are_octets octets) e in grind (arith, nat_tests, both.0)
octet_below (o ∷ octets) (suc k) e =
    octet_below octets k (and_parts (nat_lt o 256) (are_octets octets) e).1
