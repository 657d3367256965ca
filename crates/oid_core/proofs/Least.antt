-- No content of a name is shorter than the shortest, and none is that of two names.
use Rattle.std.proofs.Common.{◌≡◌, ℕ, suc, ◌+◌, ◌*◌, ◌/◌, ◌%◌, ◌^◌, ◌≤◌, ◌<◌, List, [], ◌∷◌, length, map, refl, sym, ap, ◌∙◌, arith}
use Rattle.std.specs.List.{flat_map}
use Rattle.std.specs.Int.Digits.{digits_of}
use Rattle.std.proofs.Math.Nat.{pow-suc}
use Rattle.std.proofs.lemmas.List.{length-append, length-map}
use Rattle.std.proofs.lemmas.Int.Digits.{number_lt, length-digits_of-le}
use Rattle.oid_core.specs.Name.{group_octets, IsCoded, AreCoded, coded_numbers, IsName, canon_coded, canon_name}
use Rattle.oid_core.proofs.Names.{name_only, ok_is}

length-flagged : (groups : List ℕ) → length (group_octets groups) ≡ length groups
length-flagged [] = refl
length-flagged (g ∷ []) = refl
length-flagged (g ∷ h ∷ groups) = omega (arith, length-flagged (h ∷ groups))

pub no_shorter_coded : (front : List ℕ) (n : ℕ) → IsCoded front n → length (canon_coded n) ≤ length front
unfolding canon_coded
no_shorter_coded front n c =
    let others = c.others in
    let below = number_lt 128 (c.first ∷ others) (c.low, c.all_low) in
    let power : 128 ^ suc (length others) ≡ 128 ^ length others * 128 = pow-suc 128 (length others) in
    let value = c.value in
    let high : n / 128 < 128 ^ length others = omega (arith, below, power, value) in
    let few = length-digits_of-le 128 (length others) (n / 128) (omega arith) high in
    omega (arith, few, ap length c.parts, length-flagged (c.first ∷ others), length-append (map (λ d. 128 + d) (digits_of 128 (n / 128))) (n % 128 ∷ []), length-map (digits_of 128 (n / 128)) (λ d. 128 + d))

all_least : (octets ns : List ℕ) → AreCoded octets ns → length (flat_map canon_coded ns) ≤ length octets
all_least octets [] coded = omega arith
all_least octets (n ∷ ns) coded =
    omega (arith, no_shorter_coded coded.0 n coded.2, all_least coded.1 ns coded.4, ap length coded.3, length-append coded.0 coded.1, length-append (canon_coded n) (flat_map canon_coded ns))

pub no_shorter_name : (content name : List ℕ) → IsName content name → length (canon_name name) ≤ length content
unfolding canon_name
no_shorter_name content name n = all_least content (coded_numbers name) n.encoded

pub one_name : (content a b : List ℕ) → IsName content a → IsName content b → a ≡ b
one_name content a b n m = ok_is a b (sym (name_only content a n) ∙ name_only content b m)
