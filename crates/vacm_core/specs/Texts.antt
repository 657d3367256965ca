-- Texts of the tables (RFC 3415, SnmpAdminString), narrowed to letters, digits, '-', '_' and '.'.
use Rattle.std.specs.Prelude.{ℕ, ◌==◌, Bool, ◌&&◌, ◌||◌, List, length, nat_le}
use Rattle.std.specs.List.{list_all}
use Rattle.std.specs.Char.{is_ascii_alphanumeric}

-- a letter, a digit, '-', '_' or '.'
abbrev pub is_plain_octet : ℕ → Bool
is_plain_octet octet = is_ascii_alphanumeric octet || octet == 45 || octet == 95 || octet == 46

abbrev pub is_plain : List ℕ → Bool
is_plain octets = list_all is_plain_octet octets

-- at least and at most so many octets
abbrev pub has_length : ℕ → ℕ → List ℕ → Bool
has_length least most octets = nat_le least (length octets) && nat_le (length octets) most
