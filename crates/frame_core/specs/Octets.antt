-- Octets as numbers, bits and addresses.
use Rattle.std.specs.Prelude.{ℕ, Bool, ◌==◌, List, drop, slice_index}
use Rattle.std.specs.Str.{bytes_eq}
use Rattle.std.specs.declared.cmp.Ordering.{Ordering}
use Rattle.std.specs.Ordering.{nat_cmp}
use Rattle.std.specs.Cmp.Lexicographic.{slice_cmp}
use Rattle.std.specs.Int.{bit_at}
use Rattle.byteorder.specs.Endian.{big_number}
use Rattle.frame_core.specs.declared.mac.Mac.{Mac}

-- The number that stands in n octets from a place on, the highest octet first (IEEE 802.1D-2004,
-- 9.1.1). Places count from 0.
abbrev pub number_at : List ℕ → ℕ → ℕ → ℕ
number_at octets place n = big_number n (drop place octets)

-- Whether a bit of an octet is 1. The lowest bit is 0 here, and 1 in the standard.
abbrev pub has_bit : ℕ → ℕ → Bool
has_bit octet bit = bit_at octet bit == 1

-- A group address: the lowest bit of its first octet is 1 (IEEE 802.3, 3.2.3).
abbrev pub is_group : Mac → Bool
is_group address = has_bit (slice_index address.0 0) 0

-- Addresses are compared octet by octet.
abbrev pub mac_cmp : Mac → Mac → Ordering
mac_cmp a b = slice_cmp nat_cmp a.0 b.0

-- Whether two addresses are one.
abbrev pub same_mac : Mac → Mac → Bool
same_mac a b = bytes_eq a.0 b.0
