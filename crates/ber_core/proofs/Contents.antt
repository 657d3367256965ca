-- How many octets the shortest content of a number has, by its range.
use Rattle.std.proofs.Common.{◌≡◌, ◌∙◌, ℕ, ℤ, pos, negsuc, suc, ◌+◌, ◌*◌, ◌^◌, ◌<◌, ◌≤◌, inl, inr, true, false, List, [], ◌∷◌, length, refl, sym, ap, arith, FitsSigned, w32, of_z}
use Rattle.std.specs.Int.{byte_at, bytes_high_first, to_be_bytes}
use Rattle.std.proofs.lemmas.Bool.{cases_lt}
use Rattle.std.proofs.lemmas.Bool.Decides.{nat_tests}
use Rattle.std.proofs.lemmas.Int.{ints}
use Rattle.ber_core.specs.Encoding.{is_spare, shortest, canon_integer, canon_unsigned}

-- ---- two octets at the front

stays : (a b : ℕ) (rest : List ℕ) → is_spare a b ≡ false → length (shortest (a ∷ b ∷ rest)) ≡ suc (suc (length rest))
stays a b rest e = rw e refl

low_stays : (a b : ℕ) → 128 ≤ a * 256 + b → a < 128 → is_spare a b ≡ false
low_stays a b some low = grind (arith, nat_tests)

high_stays : (a b : ℕ) → a * 256 + b < 65408 → 128 ≤ a → b < 256 → is_spare a b ≡ false
high_stays a b few high fits = grind (arith, nat_tests)

kept_low : (a b : ℕ) (rest : List ℕ) → 128 ≤ a * 256 + b → a < 128 → length (shortest (a ∷ b ∷ rest)) ≡ suc (suc (length rest))
kept_low a b rest some low = stays a b rest (low_stays a b some low)

kept_high : (a b : ℕ) (rest : List ℕ) → a * 256 + b < 65408 → 128 ≤ a → b < 256 → length (shortest (a ∷ b ∷ rest)) ≡ suc (suc (length rest))
kept_high a b rest few high fits = stays a b rest (high_stays a b few high fits)

pub few_stay : (content : List ℕ) → length content < 2 → shortest content ≡ content
few_stay [] few = refl
few_stay (a ∷ []) few = refl
few_stay (a ∷ b ∷ rest) few = absurd (omega (arith, few))

taken : (a b : ℕ) (rest : List ℕ) → is_spare a b ≡ true → shortest (a ∷ b ∷ rest) ≡ shortest (b ∷ rest)
taken a b rest e = rw e refl

low_spare : (a b : ℕ) → a ≡ 0 → b < 128 → is_spare a b ≡ true
low_spare a b zero few = grind (arith, nat_tests)

high_spare : (a b : ℕ) → a ≡ 255 → 128 ≤ b → is_spare a b ≡ true
high_spare a b all some = grind (arith, nat_tests)

zero_off : (a : ℕ) (rest : List ℕ) → a ≡ 0 → shortest (0 ∷ a ∷ rest) ≡ shortest (0 ∷ rest)
zero_off a rest none = ap (λ (k : ℕ). shortest (0 ∷ k ∷ rest)) none

-- ---- numbers that are not negative

off_7 : (n : ℕ) → n < 2 ^ 56 → shortest (0 ∷ bytes_high_first 8 n) ≡ shortest (0 ∷ bytes_high_first 7 n)
off_7 n few = zero_off (byte_at 7 n) (bytes_high_first 7 n) (omega arith)

off_6 : (n : ℕ) → n < 2 ^ 48 → shortest (0 ∷ bytes_high_first 7 n) ≡ shortest (0 ∷ bytes_high_first 6 n)
off_6 n few = zero_off (byte_at 6 n) (bytes_high_first 6 n) (omega arith)

off_5 : (n : ℕ) → n < 2 ^ 40 → shortest (0 ∷ bytes_high_first 6 n) ≡ shortest (0 ∷ bytes_high_first 5 n)
off_5 n few = zero_off (byte_at 5 n) (bytes_high_first 5 n) (omega arith)

off_4 : (n : ℕ) → n < 2 ^ 32 → shortest (0 ∷ bytes_high_first 5 n) ≡ shortest (0 ∷ bytes_high_first 4 n)
off_4 n few = zero_off (byte_at 4 n) (bytes_high_first 4 n) (omega arith)

off_3 : (n : ℕ) → n < 2 ^ 24 → shortest (0 ∷ bytes_high_first 4 n) ≡ shortest (0 ∷ bytes_high_first 3 n)
off_3 n few = zero_off (byte_at 3 n) (bytes_high_first 3 n) (omega arith)

off_2 : (n : ℕ) → n < 2 ^ 16 → shortest (0 ∷ bytes_high_first 3 n) ≡ shortest (0 ∷ bytes_high_first 2 n)
off_2 n few = zero_off (byte_at 2 n) (bytes_high_first 2 n) (omega arith)

off_1 : (n : ℕ) → n < 2 ^ 8 → shortest (0 ∷ bytes_high_first 2 n) ≡ shortest (0 ∷ bytes_high_first 1 n)
off_1 n few = zero_off (byte_at 1 n) (bytes_high_first 1 n) (omega arith)

seven : (n : ℕ) → n < 2 ^ 56 → canon_unsigned n ≡ shortest (0 ∷ bytes_high_first 7 n)
unfolding canon_unsigned
seven n few = off_7 n few

six : (n : ℕ) → n < 2 ^ 48 → canon_unsigned n ≡ shortest (0 ∷ bytes_high_first 6 n)
six n few = seven n (omega (arith, few)) ∙ off_6 n few

five : (n : ℕ) → n < 2 ^ 40 → canon_unsigned n ≡ shortest (0 ∷ bytes_high_first 5 n)
five n few = six n (omega (arith, few)) ∙ off_5 n few

-- a number of 32 bits by its four octets
pub unsigned_of_four : (n : ℕ) → n < 2 ^ 32 → canon_unsigned n ≡ shortest (0 ∷ to_be_bytes w32 n)
unsigned_of_four n few = five n (omega (arith, few)) ∙ off_4 n few

three : (n : ℕ) → n < 2 ^ 24 → canon_unsigned n ≡ shortest (0 ∷ bytes_high_first 3 n)
three n few = unsigned_of_four n (omega (arith, few)) ∙ off_3 n few

two : (n : ℕ) → n < 2 ^ 16 → canon_unsigned n ≡ shortest (0 ∷ bytes_high_first 2 n)
two n few = three n (omega (arith, few)) ∙ off_2 n few

one : (n : ℕ) → n < 2 ^ 8 → canon_unsigned n ≡ shortest (0 ∷ bytes_high_first 1 n)
one n few = two n (omega (arith, few)) ∙ off_1 n few

-- a first octet of 0 is to spare in front of a second below 128, which stays where it and the next are no less than 128
counted : (a b : ℕ) (rest : List ℕ) → 128 ≤ a * 256 + b → a < 128 → length (shortest (0 ∷ a ∷ b ∷ rest)) ≡ suc (suc (length rest))
counted a b rest some low = ap length (taken 0 a (b ∷ rest) (low_spare 0 a refl low)) ∙ kept_low a b rest some low

pub unsigned_1 : (n : ℕ) → n < 2 ^ 7 → length (canon_unsigned n) ≡ 1
unsigned_1 n few = ap length (one n (omega (arith, few))) ∙ ap length (taken 0 (byte_at 0 n) [] (low_spare 0 (byte_at 0 n) refl (omega (arith, few))))

pub unsigned_2 : (n : ℕ) → 2 ^ 7 ≤ n → n < 2 ^ 15 → length (canon_unsigned n) ≡ 2
unsigned_2 n some few = ap length (two n (omega (arith, few))) ∙ counted (byte_at 1 n) (byte_at 0 n) [] (omega (arith, some, few)) (omega (arith, few))

pub unsigned_3 : (n : ℕ) → 2 ^ 15 ≤ n → n < 2 ^ 23 → length (canon_unsigned n) ≡ 3
unsigned_3 n some few = ap length (three n (omega (arith, few))) ∙ counted (byte_at 2 n) (byte_at 1 n) (bytes_high_first 1 n) (omega (arith, some, few)) (omega (arith, few))

pub unsigned_4 : (n : ℕ) → 2 ^ 23 ≤ n → n < 2 ^ 31 → length (canon_unsigned n) ≡ 4
unsigned_4 n some few = ap length (unsigned_of_four n (omega (arith, few))) ∙ counted (byte_at 3 n) (byte_at 2 n) (bytes_high_first 2 n) (omega (arith, some, few)) (omega (arith, few))

pub unsigned_5 : (n : ℕ) → 2 ^ 31 ≤ n → n < 2 ^ 39 → length (canon_unsigned n) ≡ 5
unsigned_5 n some few = ap length (five n (omega (arith, few))) ∙ counted (byte_at 4 n) (byte_at 3 n) (bytes_high_first 3 n) (omega (arith, some, few)) (omega (arith, few))

pub unsigned_6 : (n : ℕ) → 2 ^ 39 ≤ n → n < 2 ^ 47 → length (canon_unsigned n) ≡ 6
unsigned_6 n some few = ap length (six n (omega (arith, few))) ∙ counted (byte_at 5 n) (byte_at 4 n) (bytes_high_first 4 n) (omega (arith, some, few)) (omega (arith, few))

pub unsigned_7 : (n : ℕ) → 2 ^ 47 ≤ n → n < 2 ^ 55 → length (canon_unsigned n) ≡ 7
unsigned_7 n some few = ap length (seven n (omega (arith, few))) ∙ counted (byte_at 6 n) (byte_at 5 n) (bytes_high_first 5 n) (omega (arith, some, few)) (omega (arith, few))

pub unsigned_8 : (n : ℕ) → 2 ^ 55 ≤ n → n < 2 ^ 63 → length (canon_unsigned n) ≡ 8
unfolding canon_unsigned
unsigned_8 n some few = counted (byte_at 7 n) (byte_at 6 n) (bytes_high_first 6 n) (omega (arith, some, few)) (omega (arith, few))

zero_stays : (a : ℕ) (rest : List ℕ) → 128 ≤ a → length (shortest (0 ∷ a ∷ rest)) ≡ suc (suc (length rest))
zero_stays a rest high = kept_low 0 a rest (omega (arith, high)) (omega arith)

pub unsigned_9 : (n : ℕ) → 2 ^ 63 ≤ n → n < 2 ^ 64 → length (canon_unsigned n) ≡ 9
unfolding canon_unsigned
unsigned_9 n some few = zero_stays (byte_at 7 n) (bytes_high_first 7 n) (omega (arith, some, few))

-- ---- numbers with a sign

-- from 0 on, a number has the content that it has without a sign
pub signed_natural : (n : ℕ) → n < 2 ^ 31 → canon_integer (pos n) ≡ canon_unsigned n
unfolding canon_integer
signed_natural n few =
    let same : of_z w32 (pos n) ≡ n = omega (arith, ints) in
    let low : byte_at 3 n < 128 = omega (arith, few) in
    ap (λ (k : ℕ). shortest (to_be_bytes w32 k)) same ∙ sym (taken 0 (byte_at 3 n) (bytes_high_first 3 n) (low_spare 0 (byte_at 3 n) refl low)) ∙ sym (unsigned_of_four n (omega (arith, few)))

-- below 0, the four octets write the number and 2 ^ 32, and octets of 255 are to spare
ones_3 : (n : ℕ) → n < 2 ^ 32 → 2 ^ 32 ≤ n + 2 ^ 23 → shortest (bytes_high_first 4 n) ≡ shortest (bytes_high_first 3 n)
ones_3 n fits some = taken (byte_at 3 n) (byte_at 2 n) (bytes_high_first 2 n) (high_spare (byte_at 3 n) (byte_at 2 n) (omega (arith, fits, some)) (omega (arith, fits, some)))

ones_2 : (n : ℕ) → n < 2 ^ 32 → 2 ^ 32 ≤ n + 2 ^ 15 → shortest (bytes_high_first 3 n) ≡ shortest (bytes_high_first 2 n)
ones_2 n fits some = taken (byte_at 2 n) (byte_at 1 n) (bytes_high_first 1 n) (high_spare (byte_at 2 n) (byte_at 1 n) (omega (arith, fits, some)) (omega (arith, fits, some)))

ones_1 : (n : ℕ) → n < 2 ^ 32 → 2 ^ 32 ≤ n + 2 ^ 7 → shortest (bytes_high_first 2 n) ≡ shortest (bytes_high_first 1 n)
ones_1 n fits some = taken (byte_at 1 n) (byte_at 0 n) [] (high_spare (byte_at 1 n) (byte_at 0 n) (omega (arith, fits, some)) (omega (arith, fits, some)))

negative_1 : (n : ℕ) → n < 2 ^ 32 → 2 ^ 32 ≤ n + 2 ^ 7 → length (shortest (to_be_bytes w32 n)) ≡ 1
negative_1 n fits some = ap length (ones_3 n fits (omega (arith, some)) ∙ ones_2 n fits (omega (arith, some)) ∙ ones_1 n fits some)

negative_2 : (n : ℕ) → n < 2 ^ 32 → 2 ^ 32 ≤ n + 2 ^ 15 → n + 2 ^ 7 < 2 ^ 32 → length (shortest (to_be_bytes w32 n)) ≡ 2
negative_2 n fits some few = ap length (ones_3 n fits (omega (arith, some)) ∙ ones_2 n fits some) ∙ kept_high (byte_at 1 n) (byte_at 0 n) [] (omega (arith, fits, some, few)) (omega (arith, fits, some)) (omega arith)

negative_3 : (n : ℕ) → n < 2 ^ 32 → 2 ^ 32 ≤ n + 2 ^ 23 → n + 2 ^ 15 < 2 ^ 32 → length (shortest (to_be_bytes w32 n)) ≡ 3
negative_3 n fits some few = ap length (ones_3 n fits some) ∙ kept_high (byte_at 2 n) (byte_at 1 n) (bytes_high_first 1 n) (omega (arith, fits, some, few)) (omega (arith, fits, some)) (omega arith)

negative_4 : (n : ℕ) → n < 2 ^ 32 → 2 ^ 31 ≤ n → n + 2 ^ 23 < 2 ^ 32 → length (shortest (to_be_bytes w32 n)) ≡ 4
negative_4 n fits some few = kept_high (byte_at 3 n) (byte_at 2 n) (bytes_high_first 2 n) (omega (arith, fits, some, few)) (omega (arith, fits, some)) (omega arith)

-- a number below 0 has as many octets as -1 without it, which is not
complement : (m n : ℕ) → m + n + 1 ≡ 2 ^ 32 → m < 2 ^ 31 → length (shortest (to_be_bytes w32 n)) ≡ length (canon_unsigned m)
complement m n sum few =
    elim (cases_lt m (2 ^ 7)) [
      | inl below ↦ negative_1 n (omega (arith, sum)) (omega (arith, sum, below)) ∙ sym (unsigned_1 m below)
      | inr from1 ↦ elim (cases_lt m (2 ^ 15)) [
        | inl below ↦ negative_2 n (omega (arith, sum)) (omega (arith, sum, below)) (omega (arith, sum, from1)) ∙ sym (unsigned_2 m from1 below)
        | inr from2 ↦ elim (cases_lt m (2 ^ 23)) [
          | inl below ↦ negative_3 n (omega (arith, sum)) (omega (arith, sum, below)) (omega (arith, sum, from2)) ∙ sym (unsigned_3 m from2 below)
          | inr from3 ↦ negative_4 n (omega (arith, sum)) (omega (arith, sum, few)) (omega (arith, sum, from3)) ∙ sym (unsigned_4 m from3 few)
        ]
      ]
    ]

pub signed_negative : (m : ℕ) → m < 2 ^ 31 → length (canon_integer (negsuc m)) ≡ length (canon_unsigned m)
unfolding canon_integer
signed_negative m few =
    let sum : m + of_z w32 (negsuc m) + 1 ≡ 2 ^ 32 = omega (arith, ints) in
    complement m (of_z w32 (negsuc m)) sum few

pub size_of_natural : (z : ℤ) (n : ℕ) → FitsSigned w32 z → z ≡ pos n → length (canon_unsigned n) ≡ length (canon_integer z)
size_of_natural z n fits is =
    let few : n < 2 ^ 31 = omega (arith, ints) in
    sym (ap (λ (y : ℤ). length (canon_integer y)) is ∙ ap length (signed_natural n few))

pub size_of_negative : (z : ℤ) (n : ℕ) → FitsSigned w32 z → z ≡ negsuc n → length (canon_unsigned n) ≡ length (canon_integer z)
size_of_negative z n fits is =
    let few : n < 2 ^ 31 = omega (arith, ints) in
    sym (ap (λ (y : ℤ). length (canon_integer y)) is ∙ signed_negative n few)
