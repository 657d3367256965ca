-- The test of whether a bridge may have a static row of an index.
use Rattle.std.proofs.Common.{◌≡◌, ◌↔◌, Bool, true, false, not, ◌&&◌, nat_le, List, ℕ, refl, sym, ap, ◌∙◌, arith, IsTrue}
use Rattle.std.proofs.lemmas.Bool.{and_parts}
use Rattle.std.proofs.lemmas.Bool.Decides.{nat_tests}
use Rattle.std.proofs.lemmas.Slice.Eq.{bytes_eq-Decides}
use Rattle.frame_core.specs.declared.mac.Mac.{Mac}
use Rattle.frame_core.specs.Octets.{same_mac}
use Rattle.fdb_core.specs.declared.static_row.StaticIndex.{StaticIndex}
use Rattle.fdb_core.specs.Rows.{IsAddress}
use Rattle.bridge_core.specs.Bridge.{BridgeState, address_of, port_count}
use Rattle.bridge_core.specs.Forwarding.{is_reserved}
use Rattle.bridge_core.specs.StaticIndexes.{IsStaticIndex}
use Rattle.setphase_core.specs.Writing.{may_have_row}

none_true : (b : Bool) → not b ≡ true → b ≡ false
none_true true e = absurd (cc)
none_true false e = refl

both_fail : (b : Bool) → b ≡ true → not b ≡ true → ⊥
both_fail true e f = cc
both_fail false e f = cc

pub may_have_it : (b : BridgeState) (i : StaticIndex) → IsAddress i.address → may_have_row b i ≡ true → IsStaticIndex b i
may_have_it b i address e =
    let place = and_parts (nat_le i.port (port_count b)) _ e in
    let away = and_parts (not (same_mac i.address (address_of b))) (not (is_reserved i.address)) place.1 in
    record {
      address = address;
      port = grind (arith, nat_tests, place.0);
      foreign = λ same. both_fail (same_mac i.address (address_of b)) ((bytes_eq-Decides i.address.0 (address_of b).0).1 (ap (λ (a : Mac). a.0) same)) away.0;
      unreserved = none_true (is_reserved i.address) away.1;
    }

pub has_it : (b : BridgeState) (i : StaticIndex) → IsStaticIndex b i → may_have_row b i ≡ true
has_it b i h =
    let port : nat_le i.port (port_count b) ≡ true = grind (arith, nat_tests, h.port) in
    let other : same_mac i.address (address_of b) ≡ false = differs (same_mac i.address (address_of b)) refl in
    rw port (rw other (rw h.unreserved refl))
  where
    of : List ℕ → Mac
    of octets = record { 0 = octets }

    differs : (v : Bool) → same_mac i.address (address_of b) ≡ v → v ≡ false
    differs false e = refl
    differs true e = absurd (h.foreign (ap of ((bytes_eq-Decides i.address.0 (address_of b).0).0 e)))

pub tested : (b : BridgeState) (i : StaticIndex) (result : Bool) → IsAddress i.address → IsTrue result ↔ IsStaticIndex b i → result ≡ may_have_row b i
tested b i true address h = sym (has_it b i (h.0 refl))
tested b i false address h = refused (may_have_row b i) refl
  where
    refused : (t : Bool) → may_have_row b i ≡ t → false ≡ t
    refused false e = refl
    refused true e = h.1 (may_have_it b i address e)
