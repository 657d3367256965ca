-- Dotted text read as a function: the name that a text is, where it is one.
use Rattle.std.specs.Prelude.{ℕ, ◌^◌, ◌==◌, ◌&&◌, not, nat_lt, Bool, false, if◌then◌else◌, List, [], ◌∷◌, Option, Some, None, option_map, option_and_then}
use Rattle.std.specs.Str.{all_ascii_digits}
use Rattle.std.specs.Str.Parse.{digits_value}
use Rattle.oid_core.specs.Text.{pieces}

-- what each element gives, if each gives something
abbrev pub all_of : {A B : Type 0} → (A → Option B) → List A → Option (List B)
all_of f [] = Some []
all_of f (x ∷ xs) = option_and_then (λ y. option_map (λ ys. y ∷ ys) (all_of f xs)) (f x)

-- a decimal digit, or more of them of which the first is not 0
abbrev pub is_numeral : List ℕ → Bool
is_numeral [] = false
is_numeral (digit ∷ []) = all_ascii_digits (digit ∷ [])
is_numeral (digit ∷ next ∷ more) = all_ascii_digits (digit ∷ next ∷ more) && not (digit == 48)

-- the number below 2 ^ 32 that a numeral writes
unfoldable pub number_of_text : List ℕ → Option ℕ
number_of_text text = if is_numeral text && nat_lt (digits_value 10 text) (2 ^ 32) then Some (digits_value 10 text) else None

-- the numbers between the dots, where each part is a numeral
unfoldable pub name_of_text : List ℕ → Option (List ℕ)
name_of_text text = all_of number_of_text (pieces text)
