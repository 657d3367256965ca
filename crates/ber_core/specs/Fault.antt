-- Why octets begin with no tag, length and content.
use Rattle.std.specs.Prelude.{◌≡◌, ℕ, ◌<◌, List, ◌∷◌}
use Rattle.ber_core.specs.declared.fault.BerFault.{BerFault}
use Rattle.ber_core.specs.declared.fault.BerFault.TheVariants.{Short, Indefinite, LengthTooLong, BadContent, NoRoom}
use Rattle.ber_core.specs.Encoding.{BeginsTlv}

-- Behind the tag stands the indefinite form of a length, 80 (X.690, 8.1.3.6).
pub record BeginsIndefinite (octets : List ℕ) : Type 0 where
  pub tag : ℕ
  pub rest : List ℕ
  pub parts : octets ≡ tag ∷ 128 ∷ rest

-- Behind the tag stands the long form of a length in more than four octets, 85 to FF (X.690,
-- 8.1.3.5).
pub record BeginsTooLong (octets : List ℕ) : Type 0 where
  pub tag : ℕ
  pub first : ℕ
  pub rest : List ℕ
  pub parts : octets ≡ tag ∷ first ∷ rest
  pub more : 132 < first

-- Octets that begin with neither, nor with a tag, a length and as much content, end too early.
pub record EndsEarly (octets : List ℕ) : Type 0 where
  pub definite : ¬ BeginsIndefinite octets
  pub accepted : ¬ BeginsTooLong octets
  pub none : (tag : ℕ) (content rest : List ℕ) → ¬ BeginsTlv octets tag content rest

abbrev pub IsTlvFault : List ℕ → BerFault → Type 0
IsTlvFault octets Short = EndsEarly octets
IsTlvFault octets Indefinite = BeginsIndefinite octets
IsTlvFault octets LengthTooLong = BeginsTooLong octets
IsTlvFault octets BadContent = ⊥
IsTlvFault octets NoRoom = ⊥
