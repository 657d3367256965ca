-- The basic encoding rules, as far as they are used: tags of one octet, definite lengths, primitive
-- integers (X.690, 8.1 and 8.3).
use Rattle.std.specs.Prelude.{Bool, false, ◌||◌, ◌&&◌, ◌==◌, nat_le, ℤ, pos, ◌-ℤ◌, nat_lt, if◌then◌else◌, slice_index, ◌≡◌, ℕ, ◌+◌, ◌^◌, ◌<◌, ◌≤◌, ◌⊎◌, List, [], ◌∷◌, ◌++◌, length}
use Rattle.std.specs.List.{AllByRecursion}
use Rattle.std.specs.Int.{w32, w64, to_be_bytes, cast_unsigned}
use Rattle.std.specs.Int.Digits.{number_from_digits, digits_of}

-- A list of octets.
abbrev pub AreOctets : List ℕ → Type 0
AreOctets octets = AllByRecursion (λ o. o < 256) octets

-- the number that octets write, the highest first
abbrev pub number : List ℕ → ℕ
number digits = number_from_digits 256 digits

-- The short form of a length: one octet below 128.
abbrev pub IsShortForm : List ℕ → ℕ → Type 0
IsShortForm octets n = (octets ≡ n ∷ []) × (n < 128)

-- The long form: 128 and the count of the octets behind it, one to four, which write the number. It
-- need not be the shortest.
pub record IsLongForm (octets : List ℕ) (n : ℕ) : Type 0 where
  pub digits : List ℕ
  pub some : 1 ≤ length digits
  pub few : length digits ≤ 4
  pub parts : octets ≡ (128 + length digits) ∷ digits
  pub value : number digits ≡ n

abbrev pub IsLength : List ℕ → ℕ → Type 0
IsLength octets n = IsShortForm octets n ⊎ IsLongForm octets n

-- A tag, the length of the content, and the content.
pub record IsTlv (tag : ℕ) (content octets : List ℕ) : Type 0 where
  pub head : List ℕ
  pub counts : IsLength head (length content)
  pub parts : octets ≡ tag ∷ (head ++ content)

-- Octets that begin with a value of this tag and content, and go on with the rest.
pub record BeginsTlv (octets : List ℕ) (tag : ℕ) (content rest : List ℕ) : Type 0 where
  pub front : List ℕ
  pub encoded : IsTlv tag content front
  pub joined : octets ≡ front ++ rest

-- The number that octets write in two's complement: from 128 on the first octet makes it negative.
abbrev pub twos_complement : List ℕ → ℤ
twos_complement content = if nat_lt (slice_index content 0) 128 then pos (number content) else pos (number content) -ℤ pos (256 ^ length content)

-- The content of an INTEGER: one to four octets, in two's complement.
pub record IsInteger (content : List ℕ) (z : ℤ) : Type 0 where
  pub some : 1 ≤ length content
  pub few : length content ≤ 4
  pub value : twos_complement content ≡ z

-- The content of an unsigned number of so many octets, 4 or 8 (RFC 2578, 7.1): an INTEGER that is
-- not negative, so one octet more holds its sign.
pub record IsUnsigned (width : ℕ) (content : List ℕ) (n : ℕ) : Type 0 where
  pub some : 1 ≤ length content
  pub few : length content ≤ width + 1
  pub value : twos_complement content ≡ pos n
  pub fits : n < 256 ^ width

-- The one shortest length.
abbrev pub canon_length : ℕ → List ℕ
canon_length n = if nat_lt n 128 then n ∷ [] else (128 + length (digits_of 256 n)) ∷ digits_of 256 n

unfoldable pub canon_tlv : ℕ → List ℕ → List ℕ
canon_tlv tag content = tag ∷ (canon_length (length content) ++ content)

-- A first octet is to spare where its bits and the highest bit of the next are all alike.
abbrev pub is_spare : ℕ → ℕ → Bool
is_spare first second = (first == 0 && nat_lt second 128) || (first == 255 && nat_le 128 second)

-- No first octet is to spare (X.690, 8.3.2).
abbrev pub IsMinimal : List ℕ → Type 0
IsMinimal [] = Unit {0}
IsMinimal (a ∷ []) = Unit {0}
IsMinimal (a ∷ b ∷ rest) = is_spare a b ≡ false

-- the octets without those to spare
abbrev pub shortest : List ℕ → List ℕ
shortest [] = []
shortest (a ∷ []) = a ∷ []
shortest (a ∷ b ∷ rest) = if is_spare a b then shortest (b ∷ rest) else a ∷ b ∷ rest

-- The one shortest content of an INTEGER.
unfoldable pub canon_integer : ℤ → List ℕ
canon_integer z = shortest (to_be_bytes w32 (cast_unsigned w32 z))

-- The one shortest content of an unsigned number below 2 ^ 64.
unfoldable pub canon_unsigned : ℕ → List ℕ
canon_unsigned n = shortest (0 ∷ to_be_bytes w64 n)
