-- What the content of an unsigned number writes.
use Rattle.std.proofs.Common.{◌≡◌, ◌≢◌, ℕ, suc, pos, ◌+◌, ◌*◌, ◌^◌, ◌<◌, ◌≤◌, List, [], ◌∷◌, length, get_or, refl, ap, arith, sym, ◌∙◌}
use Rattle.std.specs.Int.Digits.{number_from_digits_after, AllBelowBase}
use Rattle.std.proofs.Math.Nat.{pow-suc, pow-le-pow_right, mul-le-mul_right}
use Rattle.std.proofs.lemmas.Bool.{lt-ltb, le-ltb}
use Rattle.std.proofs.lemmas.Int.{ints}
use Rattle.std.proofs.lemmas.Int.Digits.{number_lt}
use Rattle.ber_core.specs.Encoding.{number, twos_complement, IsUnsigned}
use Rattle.ber_core.proofs.Octets.{EachIsOctet}

pub all_below : (digits : List ℕ) → EachIsOctet digits → AllBelowBase 256 digits
all_below [] fits = tt
all_below (d ∷ digits) fits = (fits 0, all_below digits (λ i. fits (suc i)))

pub number_below : (digits : List ℕ) → EachIsOctet digits → number digits < 256 ^ length digits
number_below digits fits = number_lt 256 digits (all_below digits fits)

pub power_le : (i j : ℕ) → i ≤ j → 256 ^ i ≤ 256 ^ j
power_le i j le = let some : 0 < 256 = omega arith in pow-le-pow_right some le

pub whole_below : (width : ℕ) (content : List ℕ) → EachIsOctet content → length content ≤ width → number content < 256 ^ width
whole_below width content fits few = omega (arith, number_below content fits, power_le (length content) width few)

-- a first octet from 128 on makes the number negative
pub negative : (content : List ℕ) (n : ℕ) → EachIsOctet content → 128 ≤ get_or content 0 0 → twos_complement content ≡ pos n → ⊥
negative content n fits high value =
    let e = rw (le-ltb _ _ high) at value in
    omega (arith, ints, number_below content fits, e)

low_value : (content : List ℕ) → get_or content 0 0 < 128 → twos_complement content ≡ pos (number content)
low_value content low = rw (lt-ltb _ _ low) refl

pub whole_is : (width n : ℕ) (content : List ℕ) → EachIsOctet content → 1 ≤ length content → get_or content 0 0 < 128 → length content ≤ width → n ≡ number content → IsUnsigned width content n
whole_is width n content fits some low few is = record {
  some = some;
  few = omega arith;
  value = low_value content low ∙ ap (λ (k : ℕ). pos k) (sym is);
  fits = omega (arith, whole_below width content fits few, is);
}

spread : (n d p : ℕ) → (n * 256 + d) * p ≡ n * (p * 256) + d * p
spread n d p = omega arith

pub number_shift : (n : ℕ) (digits : List ℕ) → number_from_digits_after 256 n digits ≡ n * 256 ^ length digits + number_from_digits_after 256 0 digits
number_shift n [] = omega arith
number_shift n (d ∷ digits) =
    let a = number_shift (n * 256 + d) digits in
    let b = number_shift (0 * 256 + d) digits in
    let c = spread n d (256 ^ length digits) in
    let e : n * 256 ^ suc (length digits) ≡ n * (256 ^ length digits * 256) = ap (λ (p : ℕ). n * p) (pow-suc 256 (length digits)) in
    let f = spread 0 d (256 ^ length digits) in
    let all : number_from_digits_after 256 (n * 256 + d) digits ≡ n * 256 ^ suc (length digits) + number_from_digits_after 256 (0 * 256 + d) digits = omega (arith, a, b, c, e, f) in
    all

-- one octet too many, and not 0, makes the number too large
pub too_large : (width : ℕ) (content : List ℕ) (n : ℕ) → width < length content → get_or content 0 0 < 128 → get_or content 0 0 ≢ 0 → IsUnsigned width content n → ⊥
too_large width [] n more low lead u = omega arith
too_large width (first ∷ digits) n more low lead u =
    let few = u.few in
    let fits = u.fits in
    let len : length digits ≡ width = omega arith in
    let value : pos (number (first ∷ digits)) ≡ pos n = sym (low_value (first ∷ digits) low) ∙ u.value in
    let same : number (first ∷ digits) ≡ n = cc in
    let some : 1 ≤ first = omega arith in
    let shift : number (first ∷ digits) ≡ (0 * 256 + first) * 256 ^ length digits + number_from_digits_after 256 0 digits = number_shift (0 * 256 + first) digits in
    let large : 1 * 256 ^ length digits ≤ first * 256 ^ length digits = mul-le-mul_right (256 ^ length digits) some in
    let power : 256 ^ length digits ≡ 256 ^ width = ap (λ (k : ℕ). 256 ^ k) len in
    omega (arith, shift, large, power, same, fits)
