-- Digits of one length that write one number are the same.
use Rattle.std.proofs.Common.{◌≡◌, ℕ, ◌+◌, ◌*◌, ◌≤◌, ◌<◌, List, [], ◌∷◌, length, refl, sym, ap, ◌∙◌, arith, inl, inr}
use Rattle.std.specs.Int.Digits.{number_from_digits, number_from_digits_after, AllBelowBase}
use Rattle.std.proofs.Math.Nat.{mul-le-mul_right}
use Rattle.std.proofs.lemmas.Bool.{cases_lt}

not_below : (a c x y b : ℕ) → a < c → x < b → a * b + x ≡ c * b + y → ⊥
not_below a c x y b less small same =
    let next : a + 1 ≤ c = omega arith in
    let bound = mul-le-mul_right b next in
    omega (arith, bound)

-- a number has one digit and one number in front of it
same_parts : (a c x y b : ℕ) → x < b → y < b → a * b + x ≡ c * b + y → (a ≡ c) × (x ≡ y)
same_parts a c x y b p q same =
    elim (cases_lt a c) [
      | inl less ↦ absurd (not_below a c x y b less p same)
      | inr ge ↦
          elim (cases_lt c a) [
            | inl more ↦ absurd (not_below c a y x b more q (sym same))
            | inr le ↦
                let one : a ≡ c = omega arith in
                let product : a * b ≡ c * b = ap (λ (k : ℕ). k * b) one in
                (one, omega (arith, product, same))
          ]
    ]

same_after : (b m n : ℕ) (xs ys : List ℕ) → length xs ≡ length ys → AllBelowBase b xs → AllBelowBase b ys → number_from_digits_after b m xs ≡ number_from_digits_after b n ys → (m ≡ n) × (xs ≡ ys)
same_after b m n [] [] len p q same = (same, refl)
same_after b m n [] (y ∷ ys) len p q same = absurd (omega arith)
same_after b m n (x ∷ xs) [] len p q same = absurd (omega arith)
same_after b m n (x ∷ xs) (y ∷ ys) len p q same =
    let others = same_after b (m * b + x) (n * b + y) xs ys (omega arith) p.1 q.1 same in
    let here = same_parts m n x y b p.0 q.0 others.0 in
    (here.0, ap (λ (d : ℕ). d ∷ xs) here.1 ∙ ap (λ (t : List ℕ). y ∷ t) others.1)

pub same_digits : (b : ℕ) (xs ys : List ℕ) → length xs ≡ length ys → AllBelowBase b xs → AllBelowBase b ys → number_from_digits b xs ≡ number_from_digits b ys → xs ≡ ys
same_digits b xs ys len p q same = (same_after b 0 0 xs ys len p q same).1
