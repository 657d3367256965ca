-- The lines of a text, each ended by octet 0A, the last perhaps by the end.
use Rattle.std.specs.Prelude.{◌≡◌, ◌≢◌, ◌⊎◌, ℕ, ◌==◌, if◌then◌else◌, List, [], ◌∷◌, ◌++◌, All}
use Rattle.std.specs.List.{flat_map}

-- the lines, with one more octet at the front of the first
abbrev pub onto_first : ℕ → List (List ℕ) → List (List ℕ)
onto_first b [] = (b ∷ []) ∷ []
onto_first b (l ∷ ls) = (b ∷ l) ∷ ls

-- the end of the text directly after 0A makes no further line
abbrev pub lines_of : List ℕ → List (List ℕ)
lines_of [] = []
lines_of (b ∷ bs) = if b == 10 then [] ∷ lines_of bs else onto_first b (lines_of bs)

-- the octets before the first end of a line, or all where there is none
abbrev pub first_line : List ℕ → List ℕ
first_line [] = []
first_line (b ∷ bs) = if b == 10 then [] else b ∷ first_line bs

-- a line and its end
abbrev pub with_end : List ℕ → List ℕ
with_end line = line ++ (10 ∷ [])

-- no octet is the end of a line
abbrev pub HasNoEnd : List ℕ → Type 0
HasNoEnd line = All (λ b. b ≢ 10) line

-- a text whose last octet ends no line
pub record IsOpen (text : List ℕ) : Type 0 where
  pub front : List ℕ
  pub octet : ℕ
  pub whole : text ≡ front ++ (octet ∷ [])
  pub other : octet ≢ 10

-- lines that hold no end and that, each with its end, are the text, or the text and one end where
-- its last octet is none
pub record AreLines (text : List ℕ) (lines : List (List ℕ)) : Type 0 where
  pub no_end : All HasNoEnd lines
  pub joined : (flat_map with_end lines ≡ text) ⊎ (IsOpen text × (flat_map with_end lines ≡ with_end text))
