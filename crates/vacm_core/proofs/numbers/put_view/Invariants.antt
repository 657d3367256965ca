use Rattle.std.proofs.Common.{◌≡◌, ◌∷◌, length, take}
use Rattle.vacm_core.proofs.numbers.put_view.Given as goal

-- the octets so far
abbrev pub invariant-loop-octet : goal.invariant-loop-octet
invariant-loop-octet l = l.numbers.items ≡ length l.octets ∷ take l.octet-index l.octets
