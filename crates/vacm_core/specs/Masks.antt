-- How a mask is kept: its octets, and zeros behind them, 16 together.
use Rattle.std.proofs.Common.{◌≡◌, ℕ, ◌-◌, ◌≤◌, List, ◌++◌, length, take, drop, replicate, sym, ap, ◌∙◌, arith}
use Rattle.std.proofs.lemmas.List.{take-append-drop, length-take-le}
use Rattle.vacm_core.specs.declared.limits.TheConstants.{MAX_MASK}

abbrev pub with_zeros : List ℕ → List ℕ
with_zeros octets = octets ++ replicate (MAX_MASK - length octets) 0

-- from the value of a mask follow how many octets it has, and the 16 that are kept
pub length_again : (octets : List ℕ) (n : ℕ) → n ≤ MAX_MASK → length octets ≡ MAX_MASK → length (take n octets) ≡ n
length_again octets n short all = length-take-le n octets (omega arith)

pub octets_again : (octets : List ℕ) (n : ℕ) → n ≤ MAX_MASK → length octets ≡ MAX_MASK → drop n octets ≡ replicate (MAX_MASK - n) 0 → with_zeros (take n octets) ≡ octets
octets_again octets n short all zeros =
    ap (λ (k : ℕ). take n octets ++ replicate (MAX_MASK - k) 0) (length_again octets n short all)
    ∙ ap (λ (l : List ℕ). take n octets ++ l) (sym zeros)
    ∙ take-append-drop n octets
