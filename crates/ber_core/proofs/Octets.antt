-- Octets by their places, as the range of a slice of octets says it.
use Rattle.std.proofs.Common.{ℕ, zero, suc, ◌<◌, List, [], ◌∷◌, get_or, arith}
use Rattle.ber_core.specs.Encoding.{AreOctets}

abbrev pub EachIsOctet : List ℕ → Type 0
EachIsOctet octets = (i : ℕ) → get_or octets i 0 < 256

pub octets_at : (octets : List ℕ) → AreOctets octets → EachIsOctet octets
octets_at [] fits i = omega arith
octets_at (o ∷ octets) fits zero = fits.0
octets_at (o ∷ octets) fits (suc i) = octets_at octets fits.1 i

pub octets_from : (octets : List ℕ) → EachIsOctet octets → AreOctets octets
octets_from [] fits = tt
octets_from (o ∷ octets) fits = (fits 0, octets_from octets (λ i. fits (suc i)))
