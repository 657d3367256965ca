use Rattle.std.proofs.Common.{◌≡◌, ◌≢◌, ◌<◌, ◌≤◌, ℕ, Bool, true, false, refl, ◌∷◌, []}
use Rattle.fdb_core.specs.declared.static_row.StaticIndex.{StaticIndex}
use Rattle.fdb_core.specs.Rows.{IsAddress}
use Rattle.bridge_core.specs.Bridge.{BridgeState, address_of, port_count}
use Rattle.bridge_core.specs.Forwarding.{is_reserved}
use Rattle.bridge_core.specs.StaticIndexes.{IsStaticIndex}
use Rattle.bridge_core.proofs.Reserved.{reserved_octets, octets_reserved}
use Rattle.bridge_core.proofs.laws.own_and_reserved_addresses_have_no_static_row.Goals as goal

off : (b : Bool) → (b ≡ true → ⊥) → b ≡ false
off true h = absurd (h refl)
off false h = refl

to : (b : BridgeState) (i : StaticIndex) → IsStaticIndex b i → IsAddress i.address × (i.port ≤ port_count b) × (i.address ≢ address_of b) × ((x : ℕ) → x < 16 → i.address.0 ≢ 0x01 ∷ 0x80 ∷ 0xC2 ∷ 0x00 ∷ 0x00 ∷ x ∷ [])
to b i h = (h.address, h.port, h.foreign, λ x lt e. let on : is_reserved i.address ≡ true = octets_reserved i.address.0 (x, lt, e) in let not_on = h.unreserved in absurd cc)

from : (b : BridgeState) (i : StaticIndex) → IsAddress i.address × (i.port ≤ port_count b) × (i.address ≢ address_of b) × ((x : ℕ) → x < 16 → i.address.0 ≢ 0x01 ∷ 0x80 ∷ 0xC2 ∷ 0x00 ∷ 0x00 ∷ x ∷ []) → IsStaticIndex b i
from b i h = record {
  address = h.0;
  port = h.1;
  foreign = h.2;
  unreserved = off (is_reserved i.address) (λ t. let last = reserved_octets i.address.0 h.0.six t in h.3 last.0 last.1 last.2);
}

pub returns : goal.returns
returns c = λ b i. (to b i, from b i)
