-- A text in the writer's hand: what of it an output is still to take, and where the output stands.
use Rattle.std.specs.Prelude.{ℕ, ◌-◌, ◌==◌, List, [], ◌∷◌, Bool, true, false, Option, Some, None, not, ◌||◌, take, drop, count_by, slice_get}
use Rattle.line_output.specs.declared.pending.Pending.{Pending}
use Rattle.line_output.specs.Waiting.{octets_of}

-- what stands behind the front that is written
abbrev pub rest_of : {most : ℕ} → Pending most → List ℕ
rest_of pending = drop pending.written (octets_of pending.text)

-- A text that is to be written to an output. Where that stands inside a line which was given up, a line
-- feed comes first; there is none where there is no text.
abbrev pub behind_cut : Bool → List ℕ → List ℕ
behind_cut cut_off [] = []
behind_cut false (octet ∷ rest) = octet ∷ rest
behind_cut true (octet ∷ rest) = 10 ∷ octet ∷ rest

-- what an output is still to take
abbrev pub to_write : {most : ℕ} → Pending most → List ℕ
to_write pending = behind_cut pending.is_cut_off (rest_of pending)

-- an octet is there, and is no line feed
abbrev pub is_no_feed : Option ℕ → Bool
is_no_feed None = false
is_no_feed (Some octet) = not (octet == 10)

-- whether the front that is written ends inside a line
abbrev pub is_begun : {most : ℕ} → Pending most → Bool
is_begun pending =
    is_no_feed (slice_get (take pending.written (octets_of pending.text)) (pending.written - 1))

-- whether the output stands inside a line: one that was given up, or one of the text
abbrev pub is_inside_line : {most : ℕ} → Pending most → Bool
is_inside_line pending = pending.is_cut_off || is_begun pending

-- how many lines end in these octets
abbrev pub lines_in : List ℕ → ℕ
lines_in octets = count_by (λ octet. octet == 10) octets
