-- What an output is still to take behind a line that was given up.
use Rattle.std.proofs.Common.{◌≡◌, ℕ, ◌+◌, ◌-◌, ◌≤◌, ◌<◌, List, [], ◌∷◌, Bool, true, false, length, drop, refl, arith, zero, suc}
use Rattle.line_output.specs.Pending.{behind_cut}

pub length-behind_cut : (cut : Bool) (rest : List ℕ) → length (behind_cut cut rest) ≤ length rest + 1
length-behind_cut cut [] = omega arith
length-behind_cut false (octet ∷ rest) = omega arith
length-behind_cut true (octet ∷ rest) = omega arith

pub drop-behind_cut : (octets : ℕ) (rest : List ℕ) → 0 < octets → octets ≤ length (behind_cut true rest)
    → drop octets (behind_cut true rest) ≡ drop (octets - 1) rest
drop-behind_cut zero rest some within = absurd (omega (arith, some))
drop-behind_cut (suc octets) [] some within = absurd (omega (arith, within))
drop-behind_cut (suc octets) (octet ∷ rest) some within = grind arith

pub behind_cut-false : (rest : List ℕ) → behind_cut false rest ≡ rest
behind_cut-false [] = refl
behind_cut-false (octet ∷ rest) = refl
