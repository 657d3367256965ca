-- A name has one content.
use Rattle.std.proofs.Common.{◌≡◌, ℕ, suc, ◌+◌, ◌*◌, ◌/◌, ◌%◌, ◌^◌, ◌≤◌, ◌<◌, List, [], ◌∷◌, ◌++◌, length, refl, sym, ap, ◌∙◌, arith, inl, inr}
use Rattle.std.specs.List.{flat_map}
use Rattle.std.specs.Int.Digits.{digits_of, number_from_digits, number_from_digits_after, AllBelowBase}
use Rattle.std.proofs.Math.Nat.{pow-suc, pow-le-pow_right, mul-le-mul_right}
use Rattle.std.proofs.lemmas.Bool.{cases_lt}
use Rattle.std.proofs.lemmas.Int.Digits.{number_lt, number_after_ge, length-digits_of-le, number_digits_of, all_below_base_digits_of, digits_of_step}
use Rattle.ber_core.proofs.Digits.{same_digits}
use Rattle.oid_core.specs.Name.{group_octets, IsCoded, AreCoded, coded_numbers, IsName, canon_coded, canon_name}
use Rattle.oid_core.proofs.Canon.{flagged_of}

spread : (n d p : ℕ) → (n * 128 + d) * p ≡ n * (p * 128) + d * p
spread n d p = omega arith

-- digits behind a number are worth no less than the number alone
at_least : (n : ℕ) (digits : List ℕ) → n * 128 ^ length digits ≤ number_from_digits_after 128 n digits
at_least n [] = omega arith
at_least n (d ∷ digits) =
    let more = at_least (n * 128 + d) digits in
    let parts = spread n d (128 ^ length digits) in
    let power : n * 128 ^ suc (length digits) ≡ n * (128 ^ length digits * 128) = ap (λ (p : ℕ). n * p) (pow-suc 128 (length digits)) in
    let all : n * 128 ^ suc (length digits) ≤ number_from_digits_after 128 (n * 128 + d) digits = omega (arith, more, parts, power) in
    all

power_le : (i j : ℕ) → i ≤ j → 128 ^ i ≤ 128 ^ j
power_le i j le = let some : 0 < 128 = omega arith in pow-le-pow_right some le

-- digits of which the first is not 0 are the number's digits
own_digits : (first : ℕ) (others : List ℕ) (n : ℕ) → AllBelowBase 128 (first ∷ others) → 0 < first → number_from_digits 128 (first ∷ others) ≡ n → (first ∷ others) ≡ digits_of 128 n
own_digits first others n below leads value =
    let few = length-digits_of-le 128 (length (first ∷ others)) n (omega arith) (omega (arith, number_lt 128 (first ∷ others) below, value)) in
    let lead : 1 * 128 ^ length others ≤ first * 128 ^ length others = mul-le-mul_right (128 ^ length others) leads in
    let large : first * 128 ^ length others ≤ n = omega (arith, at_least (0 * 128 + first) others, value) in
    let own : n < 128 ^ length (digits_of 128 n) = omega (arith, number_lt 128 (digits_of 128 n) (all_below_base_digits_of 128 n (omega arith)), number_digits_of 128 n (omega arith)) in
    let len : length (first ∷ others) ≡ length (digits_of 128 n) =
    elim (cases_lt (length others) (length (digits_of 128 n))) [
      | inl more ↦ omega (arith, few)
      | inr le ↦ absurd (let power = power_le (length (digits_of 128 n)) (length others) le in omega (arith, power, own, lead, large))
    ] in
    same_digits 128 (first ∷ others) (digits_of 128 n) len below (all_below_base_digits_of 128 n (omega arith)) (value ∙ sym (number_digits_of 128 n (omega arith)))

one_by : (first : ℕ) (others : List ℕ) (n : ℕ) → AllBelowBase 128 (first ∷ others) → (1 ≤ length others → 0 < first) → number_from_digits 128 (first ∷ others) ≡ n → group_octets (first ∷ others) ≡ canon_coded n
unfolding canon_coded
one_by first [] n below leads value =
    let low = below.0 in
    let high : n / 128 ≡ 0 = omega (arith, value, low) in
    let last : n % 128 ≡ first = omega (arith, value, low) in
    rw (high, last) refl
one_by first (d ∷ others) n below leads value =
    let own = own_digits first (d ∷ others) n below (leads (omega arith)) value in
    let positive : 0 < first = leads (omega arith) in
    let some : 0 < n = omega (arith, number_after_ge 128 ((0 * 128 + first) * 128 + d) others (omega arith), value, positive) in
    ap group_octets (own ∙ digits_of_step 128 n (omega arith) some) ∙ flagged_of (digits_of 128 (n / 128)) (n % 128)

one_coded : (front : List ℕ) (n : ℕ) → IsCoded front n → front ≡ canon_coded n
one_coded front n c = c.parts ∙ one_by c.first c.others n (c.low, c.all_low) c.leads c.value

all_one : (octets ns : List ℕ) → AreCoded octets ns → octets ≡ flat_map canon_coded ns
all_one octets [] coded = coded
all_one octets (n ∷ ns) coded = coded.3 ∙ ap (λ (t : List ℕ). t ++ coded.1) (one_coded coded.0 n coded.2) ∙ ap (λ (t : List ℕ). canon_coded n ++ t) (all_one coded.1 ns coded.4)

pub one_content : (content name : List ℕ) → IsName content name → content ≡ canon_name name
unfolding canon_name
one_content content name i = all_one content (coded_numbers name) i.encoded
