use Rattle.std.proofs.Common.{◌≡◌, ◌<◌, ℕ, get_or}
use Rattle.vacm_core.proofs.by_index.are_octets.Given as goal

-- the numbers in front are the octets
abbrev pub invariant-loop-k : goal.invariant-loop-k
invariant-loop-k l = (j d : ℕ) → j < l.k → get_or l.numbers j d ≡ get_or l.octets j d
