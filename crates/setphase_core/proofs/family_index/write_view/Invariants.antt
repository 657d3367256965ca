use Rattle.std.proofs.Common.{◌≡◌, ◌∷◌, length, take}
use Rattle.setphase_core.proofs.family_index.write_view.Given as goal

-- the octets so far
abbrev pub invariant-loop-octet : goal.invariant-loop-octet
invariant-loop-octet l = l.into.items ≡ length l.octets ∷ take l.octet-index l.octets
