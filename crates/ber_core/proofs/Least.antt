-- No encoding is shorter than the shortest.
use Rattle.std.proofs.Common.{◌≡◌, ℕ, zero, suc, ℤ, pos, ◌+◌, ◌*◌, ◌%◌, ◌^◌, ◌<◌, ◌≤◌, ◌-ℤ◌, Bool, true, false, cond, List, [], ◌∷◌, ◌++◌, length, get_or, refl, ap, sym, subst, ◌∙◌, arith, inl, inr, FitsSigned, w32, w64, of_z}
use Rattle.std.specs.Int.{to_be_bytes}
use Rattle.std.specs.Int.Digits.{AllBelowBase}
use Rattle.std.proofs.Math.Nat.{pow-suc, mul-le-mul_right, mul-le-mul_left}
use Rattle.std.proofs.lemmas.Bool.{lt-ltb, le-ltb, cases_lt}
use Rattle.std.proofs.lemmas.Bool.Decides.{nat_tests}
use Rattle.std.proofs.lemmas.Int.{ints}
use Rattle.std.proofs.lemmas.Int.Digits.{length-digits_of-le}
use Rattle.std.proofs.lemmas.List.{length-append}
use Rattle.std.proofs.lemmas.Nat.{from_be_bytes-to_be_bytes_8}
use Rattle.ber_core.specs.Encoding.{IsMinimal, number, twos_complement, IsLength, IsTlv, BeginsTlv, IsInteger, IsUnsigned, canon_length, canon_tlv, is_spare, shortest, canon_integer, canon_unsigned}
use Rattle.ber_core.proofs.Octets.{EachIsOctet}
use Rattle.ber_core.proofs.Unsigned.{number_below, number_shift, power_le}
use Rattle.ber_core.proofs.Signed.{ranges}
use Rattle.ber_core.proofs.Tlv.{tlv_only}
use Rattle.ber_core.proofs.Tools.{ok_is}
use Rattle.ber_core.proofs.Canon.{canon_integer_encodes, shortest_same, shortest_len}

-- ---- lengths and values

pub tail_octets : (first : ℕ) (rest octets : List ℕ) → octets ≡ first ∷ rest → EachIsOctet octets → EachIsOctet rest
tail_octets first rest octets e fits = λ i. subst (λ (t : List ℕ). get_or t (suc i) 0 < 256) e (fits (suc i))

pub front_octets : (front rest : List ℕ) → EachIsOctet (front ++ rest) → EachIsOctet front
front_octets [] rest fits = λ i. omega arith
front_octets (o ∷ front) rest fits =
    let others = front_octets front rest (λ i. fits (suc i)) in
    λ i. elim i as (λ i. get_or (o ∷ front) i 0 < 256) [ zero ↦ fits 0 | suc j ↦ others j ]

pub no_shorter_length : (head : List ℕ) (n : ℕ) → EachIsOctet head → IsLength head n → length (canon_length n) ≤ length head
no_shorter_length head n fits (inl s) = rw (lt-ltb _ _ s.1) (omega (arith, ap length s.0))
no_shorter_length head n fits (inr s) =
    let digits = s.digits in
    let some = s.some in
    let bound : n < 256 ^ length digits = omega (arith, number_below digits (tail_octets _ digits head s.parts fits), s.value) in
    elim (cases_lt n 128) [
      | inl lt ↦ rw (lt-ltb _ _ lt) (omega (arith, ap length s.parts))
      | inr le ↦ rw (le-ltb _ _ le) (omega (arith, ap length s.parts, length-digits_of-le 256 (length digits) n (omega arith) bound))
    ]

pub no_shorter_tlv : (tag : ℕ) (content octets : List ℕ) → EachIsOctet octets → IsTlv tag content octets → length (canon_tlv tag content) ≤ length octets
unfolding canon_tlv
no_shorter_tlv tag content octets fits t =
    let rest : EachIsOctet (t.head ++ content) = tail_octets tag (t.head ++ content) octets t.parts fits in
    let least = no_shorter_length t.head (length content) (front_octets t.head content rest) t.counts in
    omega (arith, ap length t.parts, length-append t.head content, length-append (canon_length (length content)) content, least)

-- ---- how large a number in two's complement is

lead : (a : ℕ) (rest : List ℕ) → number (a ∷ rest) ≡ a * 256 ^ length rest + number rest
lead a rest = number_shift (0 * 256 + a) rest ∙ ap (λ (k : ℕ). k * 256 ^ length rest + number rest) (omega arith)

power_more : (k : ℕ) → 256 ^ suc k ≡ 256 ^ k * 256
power_more k = pow-suc 256 k

lead_two : (a b : ℕ) (rest : List ℕ) → number (a ∷ b ∷ rest) ≡ (a * 256 + b) * 256 ^ length rest + number rest
lead_two a b rest = number_shift ((0 * 256 + a) * 256 + b) rest ∙ ap (λ (k : ℕ). k * 256 ^ length rest + number rest) (omega arith)

low_lead : (a b : ℕ) → is_spare a b ≡ false → a < 128 → 128 ≤ a * 256 + b
low_lead a b e low = grind (arith, nat_tests)

high_lead : (a b : ℕ) → is_spare a b ≡ false → 128 ≤ a → a < 256 → b < 256 → a * 256 + b + 1 + 128 ≤ 65536
high_lead a b e high fits also = grind (arith, nat_tests)

low_large : (a b : ℕ) (rest : List ℕ) → is_spare a b ≡ false → a < 128 → 128 * 256 ^ length rest ≤ number (a ∷ b ∷ rest)
low_large a b rest e low = omega (arith, lead_two a b rest, mul-le-mul_right (256 ^ length rest) (low_lead a b e low))

high_small : (a b : ℕ) (rest : List ℕ) → EachIsOctet (a ∷ b ∷ rest) → is_spare a b ≡ false → 128 ≤ a → number (a ∷ b ∷ rest) + 128 * 256 ^ length rest < 256 ^ length (a ∷ b ∷ rest)
high_small a b rest fits e high =
    let p = 256 ^ length rest in
    let bound = mul-le-mul_right p (high_lead a b e high (fits 0) (fits 1)) in
    let below = number_below rest (λ i. fits (suc (suc i))) in
    let one = power_more (length rest) in
    let two = power_more (suc (length rest)) in
    omega (arith, lead_two a b rest, bound, below, one, two)

low_small : (a : ℕ) (rest : List ℕ) → EachIsOctet (a ∷ rest) → a < 128 → number (a ∷ rest) < 128 * 256 ^ length rest
low_small a rest fits low =
    let next : a + 1 ≤ 128 = omega arith in
    omega (arith, lead a rest, mul-le-mul_right (256 ^ length rest) next, number_below rest (λ i. fits (suc i)))

high_large : (a : ℕ) (rest : List ℕ) → 128 ≤ a → 128 * 256 ^ length rest ≤ number (a ∷ rest)
high_large a rest high = omega (arith, lead a rest, mul-le-mul_right (256 ^ length rest) high)

-- ---- two contents of one number

pub low_signed : (a : ℕ) (rest : List ℕ) → a < 128 → twos_complement (a ∷ rest) ≡ pos (number (a ∷ rest))
low_signed a rest low = rw (lt-ltb _ _ low) refl

pub high_signed : (a : ℕ) (rest : List ℕ) → 128 ≤ a → twos_complement (a ∷ rest) ≡ pos (number (a ∷ rest)) -ℤ pos (256 ^ length (a ∷ rest))
high_signed a rest high = rw (le-ltb _ _ high) refl

too_short : (a b d : ℕ) (rest others : List ℕ) → EachIsOctet (a ∷ b ∷ rest) → EachIsOctet (d ∷ others) → is_spare a b ≡ false → length others ≤ length rest → twos_complement (a ∷ b ∷ rest) ≡ twos_complement (d ∷ others) → ⊥
too_short a b d rest others fits also e few same =
    let power : 128 * 256 ^ length others ≤ 128 * 256 ^ length rest = mul-le-mul_left 128 (power_le (length others) (length rest) few) in
    let step = power_more (length others) in
    elim (cases_lt a 128) [
      | inl al ↦
          let large = low_large a b rest e al in
          let mine = low_signed a (b ∷ rest) al in
          elim (cases_lt d 128) [
            | inl dl ↦ let small = low_small d others also dl in let yours = low_signed d others dl in omega (arith, ints, large, small, mine, yours, same, power)
            | inr dh ↦ let below = number_below (d ∷ others) also in let yours = high_signed d others dh in omega (arith, ints, large, below, mine, yours, same)
          ]
      | inr ah ↦
          let small = high_small a b rest fits e ah in
          let mine = high_signed a (b ∷ rest) ah in
          elim (cases_lt d 128) [
            | inl dl ↦ let yours = low_signed d others dl in omega (arith, ints, small, mine, yours, same)
            | inr dh ↦ let large = high_large d others dh in let yours = high_signed d others dh in omega (arith, ints, small, large, mine, yours, same, power, step)
          ]
    ]

pub no_shorter : (content other : List ℕ) → EachIsOctet content → EachIsOctet other → IsMinimal content → 1 ≤ length other → twos_complement content ≡ twos_complement other → length content ≤ length other
no_shorter content [] fits also least some same = absurd (omega arith)
no_shorter [] (d ∷ others) fits also least some same = omega arith
no_shorter (a ∷ []) (d ∷ others) fits also least some same = omega arith
no_shorter (a ∷ b ∷ rest) (d ∷ others) fits also least some same =
    elim (cases_lt (length rest) (length others)) [
      | inl lt ↦ omega arith
      | inr le ↦ absurd (too_short a b d rest others fits also least le same)
    ]

-- ---- the shortest content

pub shortest_minimal : (xs : List ℕ) → IsMinimal (shortest xs)
shortest_minimal [] = tt
shortest_minimal (a ∷ []) = tt
shortest_minimal (a ∷ b ∷ rest) =
    let split : (t : Bool) → is_spare a b ≡ t → IsMinimal (cond t (shortest (b ∷ rest)) (a ∷ b ∷ rest)) = λ t. elim t as (λ t. is_spare a b ≡ t → IsMinimal (cond t (shortest (b ∷ rest)) (a ∷ b ∷ rest))) [
      | true ↦ λ e. shortest_minimal (b ∷ rest)
      | false ↦ λ e. e
    ] in
    split (is_spare a b) refl

pub shortest_octets : (xs : List ℕ) → EachIsOctet xs → EachIsOctet (shortest xs)
shortest_octets [] fits = fits
shortest_octets (a ∷ []) fits = fits
shortest_octets (a ∷ b ∷ rest) fits =
    elim (is_spare a b) as (λ t. EachIsOctet (cond t (shortest (b ∷ rest)) (a ∷ b ∷ rest))) [
      | true ↦ shortest_octets (b ∷ rest) (λ i. fits (suc i))
      | false ↦ fits
    ]

all_octets : (octets : List ℕ) → AllBelowBase 256 octets → EachIsOctet octets
all_octets [] all = λ i. omega arith
all_octets (o ∷ octets) all =
    let others = all_octets octets all.1 in
    λ i. elim i as (λ i. get_or (o ∷ octets) i 0 < 256) [ zero ↦ all.0 | suc j ↦ others j ]

byte : (n : ℕ) → n % 256 < 256
byte n = omega arith

bytes_4 : (n : ℕ) → AllBelowBase 256 (to_be_bytes w32 n)
bytes_4 n = (byte _, (byte _, (byte _, (byte _, tt))))

bytes_8 : (n : ℕ) → AllBelowBase 256 (to_be_bytes w64 n)
bytes_8 n = (byte _, (byte _, (byte _, (byte _, (byte _, (byte _, (byte _, (byte _, tt))))))))

pub canon_integer_octets : (z : ℤ) → EachIsOctet (canon_integer z)
unfolding canon_integer
canon_integer_octets z = shortest_octets (to_be_bytes w32 (of_z w32 z)) (all_octets (to_be_bytes w32 (of_z w32 z)) (bytes_4 (of_z w32 z)))

pub canon_integer_minimal : (z : ℤ) → IsMinimal (canon_integer z)
unfolding canon_integer
canon_integer_minimal z = shortest_minimal (to_be_bytes w32 (of_z w32 z))

pub integer_fits : (content : List ℕ) (z : ℤ) → EachIsOctet content → IsInteger content z → FitsSigned w32 z
integer_fits [] z fits i = absurd (let some = i.some in omega arith)
integer_fits (a ∷ rest) z fits i =
    let r = ranges (a ∷ rest) fits i.few i.some in
    elim (cases_lt a 128) [
      | inl lt ↦ let e = low_signed a rest lt in let low = r.low lt in let value = i.value in omega (arith, ints, e, low, value)
      | inr le ↦ let e = high_signed a rest le in let high = r.high le in let below = r.below in let value = i.value in omega (arith, ints, e, high, below, value)
    ]

pub no_shorter_integer : (content : List ℕ) (z : ℤ) → EachIsOctet content → IsInteger content z → length (canon_integer z) ≤ length content
no_shorter_integer content z fits i =
    let c = canon_integer_encodes z (integer_fits content z fits i) in
    no_shorter (canon_integer z) content (canon_integer_octets z) fits (canon_integer_minimal z) i.some (c.value ∙ sym i.value)

-- ---- unsigned numbers

eight : (n : ℕ) → n < 2 ^ 64 → number (to_be_bytes w64 n) ≡ n
eight n bound = let e = from_be_bytes-to_be_bytes_8 n bound in omega (arith, e)

pub canon_unsigned_octets : (n : ℕ) → EachIsOctet (canon_unsigned n)
unfolding canon_unsigned
canon_unsigned_octets n = shortest_octets (0 ∷ to_be_bytes w64 n) (all_octets (0 ∷ to_be_bytes w64 n) (omega arith, bytes_8 n))

pub canon_unsigned_minimal : (n : ℕ) → IsMinimal (canon_unsigned n)
unfolding canon_unsigned
canon_unsigned_minimal n = shortest_minimal (0 ∷ to_be_bytes w64 n)

pub canon_unsigned_value : (n : ℕ) → n < 2 ^ 64 → twos_complement (canon_unsigned n) ≡ pos n
unfolding canon_unsigned
canon_unsigned_value n bound = shortest_same (0 ∷ to_be_bytes w64 n) ∙ ap (λ (k : ℕ). pos k) (eight n bound)

pub no_shorter_unsigned : (width : ℕ) (content : List ℕ) (n : ℕ) → width ≤ 8 → EachIsOctet content → IsUnsigned width content n → length (canon_unsigned n) ≤ length content
no_shorter_unsigned width content n narrow fits u =
    let power = power_le width 8 narrow in
    let bound : n < 2 ^ 64 = omega (arith, u.fits, power) in
    no_shorter (canon_unsigned n) content (canon_unsigned_octets n) fits (canon_unsigned_minimal n) u.some (canon_unsigned_value n bound ∙ sym u.value)

canon_unsigned_some : (n : ℕ) → (1 ≤ length (canon_unsigned n)) × (length (canon_unsigned n) ≤ 9)
unfolding canon_unsigned
canon_unsigned_some n = shortest_len (0 ∷ to_be_bytes w64 n) (omega arith)

pub canon_unsigned_wide : (n : ℕ) → n < 2 ^ 64 → IsUnsigned 8 (canon_unsigned n) n
canon_unsigned_wide n bound =
    let len = canon_unsigned_some n in
    record { some = len.0; few = len.1; value = canon_unsigned_value n bound; fits = bound }

four : (n : ℕ) → n < 2 ^ 32 → twos_complement (0 ∷ to_be_bytes w32 n) ≡ pos n
four n bound = ap (λ (k : ℕ). pos k) (let e : number (to_be_bytes w32 n) ≡ n = omega arith in e)

pub canon_unsigned_narrow : (n : ℕ) → n < 2 ^ 32 → IsUnsigned 4 (canon_unsigned n) n
canon_unsigned_narrow n bound =
    let len = canon_unsigned_some n in
    let wide : n < 2 ^ 64 = omega arith in
    let value = canon_unsigned_value n wide in
    record {
      some = len.0;
      few = no_shorter (canon_unsigned n) (0 ∷ to_be_bytes w32 n) (canon_unsigned_octets n) (all_octets (0 ∷ to_be_bytes w32 n) (omega arith, bytes_4 n)) (canon_unsigned_minimal n) (omega arith) (value ∙ sym (four n bound));
      value = value;
      fits = bound;
    }

-- ---- octets encode one thing

pub one_tlv : (octets : List ℕ) (tag : ℕ) (content rest : List ℕ) (other : ℕ) (more after : List ℕ) → BeginsTlv octets tag content rest → BeginsTlv octets other more after → (tag ≡ other) × (content ≡ more) × (rest ≡ after)
one_tlv octets tag content rest other more after b c =
    let e = ok_is (tag, content, rest) (other, more, after) (sym (tlv_only octets tag content rest b) ∙ tlv_only octets other more after c) in
    (ap (λ (y : ℕ × List ℕ × List ℕ). y.0) e, ap (λ (y : ℕ × List ℕ × List ℕ). y.1) e, ap (λ (y : ℕ × List ℕ × List ℕ). y.2) e)
