-- The lines that wait for one output, and those that were lost.
use Rattle.std.specs.Prelude.{◌≡◌, ℕ, ◌+◌, ◌-◌, ◌^◌, List, ◌++◌, Bool, true, false, min, string_bytes}
use Rattle.line_output.specs.declared.text.LineText.{LineText}
use Rattle.line_output.specs.declared.waiting.Waiting.{Waiting}

-- a count of lost lines and so many more, which stops at the greatest number of 64 bits
abbrev pub lost_more : ℕ → ℕ → ℕ
lost_more lost more = min (lost + more) (2 ^ 64 - 1)

-- the octets of a text
abbrev pub octets_of : {most : ℕ} → LineText most → List ℕ
octets_of text = string_bytes text.text

-- A line is offered. It is taken exactly where the text stays within its most octets: the text is then
-- the one before with the line behind it, and none is lost; else the text is the one before, and one
-- line more is lost.
abbrev pub IsOffered : {most : ℕ} → Waiting most → List ℕ → Bool → Waiting most → Type 0
IsOffered old line true new =
    (octets_of new.text ≡ octets_of old.text ++ line) × (new.lost ≡ old.lost)
IsOffered old line false new =
    (octets_of new.text ≡ octets_of old.text) × (new.lost ≡ lost_more old.lost 1)
