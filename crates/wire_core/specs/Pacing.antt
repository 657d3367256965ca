-- What a pace answers.
use Rattle.std.specs.Prelude.{◌≡◌, ℕ, ◌+◌, ◌-◌, ◌/◌, ◌≤◌, ◌⊎◌, max, Bool, true, false, List, [], ◌∷◌}
use Rattle.wire_core.specs.Acts.{one_more}

-- A pace of so many ticks says true for each of them, and false where none is left.
abbrev pub CountsDown : ℕ → List Bool → ℕ → Type 0
CountsDown left [] left' = left' ≡ left
CountsDown left (true ∷ answers) left' = (rest : ℕ) × (left ≡ rest + 1) × CountsDown rest answers left'
CountsDown left (false ∷ answers) left' = (left ≡ 0) × CountsDown 0 answers left'

-- A pace without end says true each time.
abbrev pub GoesOnForEver : List Bool → Type 0
GoesOnForEver [] = Unit
GoesOnForEver (true ∷ answers) = GoesOnForEver answers
GoesOnForEver (false ∷ answers) = ⊥

-- The second of a tick behind that of this second, when so many nanoseconds have passed since the start: the
-- one behind it, or the last that is whole by then, where that is later.
abbrev pub second_of_tick : ℕ → ℕ → ℕ
second_of_tick passed second = max (one_more second) (passed / 1000000000)

-- How many seconds between those of two ticks have none.
abbrev pub missed_between : ℕ → ℕ → ℕ
missed_between second next = next - one_more second

-- A pace of whole seconds says true each time, with a second behind those before, and counts its answers: the
-- second of the last answer and how many answers there were, before and afterwards.
abbrev pub TicksOn : ℕ → ℕ → List Bool → ℕ → ℕ → Type 0
TicksOn second ticks [] second' ticks' = (second' ≡ second) × (ticks' ≡ ticks)
TicksOn second ticks (true ∷ answers) second' ticks' =
    (next : ℕ) × (one_more second ≤ next) × TicksOn next (one_more ticks) answers second' ticks'
TicksOn second ticks (false ∷ answers) second' ticks' = ⊥

-- A pace that goes on until it has ended, by whether it has, and how many answers the pace inside gave: true
-- each time before, of one answer of the pace inside each; false from then on, where the pace inside gave at
-- most one answer for the first, and none for the others.
abbrev pub GoesOnUntilEnded : Bool → ℕ → List Bool → Bool → ℕ → Type 0
GoesOnUntilEnded ended given [] ended' given' = (ended' ≡ ended) × (given' ≡ given)
GoesOnUntilEnded false given (true ∷ answers) ended' given' =
    GoesOnUntilEnded false (one_more given) answers ended' given'
GoesOnUntilEnded true given (true ∷ answers) ended' given' = ⊥
GoesOnUntilEnded false given (false ∷ answers) ended' given' =
    (last : ℕ) × ((last ≡ given) ⊎ (last ≡ one_more given)) × GoesOnUntilEnded true last answers ended' given'
GoesOnUntilEnded true given (false ∷ answers) ended' given' = GoesOnUntilEnded true given answers ended' given'
