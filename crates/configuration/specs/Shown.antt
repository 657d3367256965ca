-- A text that a stranger wrote, as it is printed.
use Rattle.std.specs.Prelude.{ℕ, ◌+◌, ◌/◌, ◌%◌, ◌==◌, ◌&&◌, not, nat_le, nat_lt, Bool, codes, if◌then◌else◌, List, [], ◌∷◌, ◌++◌, length, take}

-- the octet is printed as it is: printable ASCII, and no quotation mark (34) or backslash (92)
abbrev pub is_shown : ℕ → Bool
is_shown octet = nat_le 32 octet && nat_le octet 126 && not (octet == 34) && not (octet == 92)

-- the hexadecimal digit of a number below 16, in upper case
abbrev pub digit : ℕ → ℕ
digit number = if nat_lt number 10 then 48 + number else 55 + number

-- an octet as it is, or as `\x` and its two digits
abbrev pub shown_octet : ℕ → List ℕ
shown_octet octet =
    if is_shown octet then octet ∷ [] else codes "\\x" ++ digit (octet / 16) ∷ digit (octet % 16) ∷ []

abbrev pub shown_octets : List ℕ → List ℕ
shown_octets [] = []
shown_octets (octet ∷ octets) = shown_octet octet ++ shown_octets octets

-- at most so many octets, with two dots where there are more
abbrev pub shown : ℕ → List ℕ → List ℕ
shown most octets =
    if nat_le (length octets) most then shown_octets octets
    else shown_octets (take most octets) ++ codes ".."
