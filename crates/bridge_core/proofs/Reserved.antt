-- The addresses that no bridge forwards.
use Rattle.std.proofs.Common.{◌≡◌, ℕ, ◌<◌, Bool, true, ◌&&◌, List, [], ◌∷◌, ◌++◌, length, take, ap, ◌∙◌, arith}
use Rattle.std.specs.Prelude.{nat_lt, slice_index}
use Rattle.std.specs.Str.{bytes_eq}
use Rattle.std.proofs.lemmas.Bool.Decides.{Decides-ltb}
use Rattle.std.proofs.lemmas.Slice.Eq.{bytes_eq-Decides}
use Rattle.frame_core.specs.declared.mac.TheConstants.{BRIDGE_GROUP}
use Rattle.bridge_core.proofs.Relayed.{both_true}

-- the test of six octets
abbrev test : List ℕ → Bool
test xs = bytes_eq (take 5 xs) (take 5 BRIDGE_GROUP.0) && nat_lt (slice_index xs 5) 16

pub reserved_octets : (xs : List ℕ) → length xs ≡ 6 → test xs ≡ true → (x : ℕ) × (x < 16) × (xs ≡ 0x01 ∷ 0x80 ∷ 0xC2 ∷ 0x00 ∷ 0x00 ∷ x ∷ [])
reserved_octets (a ∷ b ∷ c ∷ d ∷ e ∷ f ∷ []) len h =
    let both = both_true (bytes_eq (a ∷ b ∷ c ∷ d ∷ e ∷ []) (take 5 BRIDGE_GROUP.0)) (nat_lt f 16) h in
    let front = (bytes_eq-Decides (a ∷ b ∷ c ∷ d ∷ e ∷ []) (take 5 BRIDGE_GROUP.0)).0 both.0 in
    (f, (Decides-ltb f 16).0 both.1, ap (λ (l : List ℕ). l ++ f ∷ []) front)
reserved_octets _ len h = absurd (omega arith)

pub octets_reserved : (xs : List ℕ) → (x : ℕ) × (x < 16) × (xs ≡ 0x01 ∷ 0x80 ∷ 0xC2 ∷ 0x00 ∷ 0x00 ∷ x ∷ []) → test xs ≡ true
octets_reserved xs h = ap test h.2 ∙ (Decides-ltb h.0 16).1 h.1
