-- How many octets a coded number has.
use Rattle.std.proofs.Common.{◌≡◌, ℕ, ◌+◌, ◌/◌, ◌%◌, ◌≤◌, ◌<◌, ◌^◌, List, [], ◌∷◌, map, length, ap, arith}
use Rattle.std.specs.Int.Digits.{digits_of}
use Rattle.std.proofs.lemmas.List.{length-append, length-map}
use Rattle.std.proofs.lemmas.Int.Digits.{length-digits_of_step}
use Rattle.oid_core.specs.Name.{canon_coded}

coded_size : (n : ℕ) → length (canon_coded n) ≡ length (digits_of 128 (n / 128)) + 1
unfolding canon_coded
coded_size n =
    let f : List ℕ = map (λ d. 128 + d) (digits_of 128 (n / 128)) in
    omega (arith, length-append f (n % 128 ∷ []), length-map (digits_of 128 (n / 128)) (λ d. 128 + d))

coded_more : (n : ℕ) → 128 ≤ n → length (canon_coded n) ≡ length (canon_coded (n / 128)) + 1
coded_more n some = omega (arith, coded_size n, coded_size (n / 128), length-digits_of_step 128 (n / 128) (omega arith) (omega (arith, some)))

-- a coded number has an octet for each group of seven bits
pub coded_1 : (n : ℕ) → n < 2 ^ 7 → length (canon_coded n) ≡ 1
coded_1 n few =
    let none : n / 128 ≡ 0 = omega (arith, few) in
    omega (arith, coded_size n, ap (λ m. length (digits_of 128 m)) none)

pub coded_2 : (n : ℕ) → 2 ^ 7 ≤ n → n < 2 ^ 14 → length (canon_coded n) ≡ 2
coded_2 n some few = omega (arith, coded_more n some, coded_1 (n / 128) (omega (arith, few)))

pub coded_3 : (n : ℕ) → 2 ^ 14 ≤ n → n < 2 ^ 21 → length (canon_coded n) ≡ 3
coded_3 n some few = omega (arith, coded_more n (omega (arith, some)), coded_2 (n / 128) (omega (arith, some)) (omega (arith, few)))

pub coded_4 : (n : ℕ) → 2 ^ 21 ≤ n → n < 2 ^ 28 → length (canon_coded n) ≡ 4
coded_4 n some few = omega (arith, coded_more n (omega (arith, some)), coded_3 (n / 128) (omega (arith, some)) (omega (arith, few)))

pub coded_5 : (n : ℕ) → 2 ^ 28 ≤ n → n < 2 ^ 35 → length (canon_coded n) ≡ 5
coded_5 n some few = omega (arith, coded_more n (omega (arith, some)), coded_4 (n / 128) (omega (arith, some)) (omega (arith, few)))
