-- The words, numbers and hexadecimal in a line of a script.
use Rattle.std.specs.Prelude.{ℕ, ◌+◌, ◌-◌, ◌*◌, Bool, false, length, slice_index, ◌==◌, ◌&&◌, nat_le, if◌then◌else◌, List, [], ◌∷◌, Option, Some, None, option_map, Result, Ok, Err}
use Rattle.std.specs.List.{list_all}
use Rattle.std.specs.Char.{is_ascii_digit}
use Rattle.hex.specs.Hex.{decode_of}
use Rattle.hex.specs.declared.error.FromHexError.{FromHexError}

-- the first word and what follows the space after it, where there is a space
abbrev pub split_word : List ℕ → Option (List ℕ × List ℕ)
split_word [] = None
split_word (b ∷ bs) =
    if b == 32 then Some ([], bs) else option_map (λ p. (b ∷ p.0, p.1)) (split_word bs)

-- digits, with no leading zero but in 0 itself
abbrev pub is_number : List ℕ → Bool
is_number word =
    if length word == 0 then false
    else if slice_index word 0 == 48 then length word == 1
    else list_all is_ascii_digit word

-- the number that digits write, when they follow those of n
abbrev pub value_on : ℕ → List ℕ → ℕ
value_on n [] = n
value_on n (d ∷ ds) = value_on (n * 10 + (d - 48)) ds

-- the number that a word writes, if it writes one of at most `most`
abbrev pub number_of : ℕ → List ℕ → Option ℕ
number_of most word =
    if is_number word && nat_le (value_on 0 word) most then Some (value_on 0 word) else None

abbrev pub octets_or_none : Result (List ℕ) FromHexError → Option (List ℕ)
octets_or_none (Ok octets) = Some octets
octets_or_none (Err e) = None

-- the octets that a text writes in hexadecimal, if it writes some
abbrev pub octets_of : List ℕ → Option (List ℕ)
octets_of text = octets_or_none (decode_of text)
