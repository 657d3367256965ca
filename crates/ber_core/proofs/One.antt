-- An encoding that is no longer than the shortest is the shortest.
use Rattle.std.proofs.Common.{◌≡◌, ℕ, suc, ℤ, pos, ◌+◌, ◌^◌, ◌<◌, ◌≤◌, List, [], ◌∷◌, ◌++◌, length, refl, ap, sym, ◌∙◌, arith, inl, inr}
use Rattle.std.specs.Int.Digits.{digits_of}
use Rattle.std.proofs.lemmas.Bool.{lt-ltb, le-ltb, cases_lt}
use Rattle.std.proofs.lemmas.Int.{ints}
use Rattle.std.proofs.lemmas.Int.Digits.{length-digits_of-le, all_below_base_digits_of, number_digits_of}
use Rattle.std.proofs.lemmas.List.{length-append}
use Rattle.ber_core.specs.Encoding.{number, twos_complement, IsLength, IsTlv, IsInteger, IsUnsigned, canon_length, canon_tlv, canon_integer, canon_unsigned}
use Rattle.ber_core.proofs.Octets.{EachIsOctet}
use Rattle.ber_core.proofs.Digits.{same_digits}
use Rattle.ber_core.proofs.Unsigned.{all_below, number_below, power_le}
use Rattle.ber_core.proofs.Canon.{canon_integer_encodes}
use Rattle.ber_core.proofs.Least.{tail_octets, front_octets, low_signed, high_signed, canon_integer_octets, no_shorter_integer, integer_fits, canon_unsigned_octets, canon_unsigned_value, no_shorter_unsigned}

-- ---- lengths and values

pub one_length : (head : List ℕ) (n : ℕ) → EachIsOctet head → IsLength head n → length head ≤ length (canon_length n) → head ≡ canon_length n
one_length head n fits (inl s) few = s.0 ∙ rw (lt-ltb _ _ s.1) refl
one_length head n fits (inr s) few =
    let digits = s.digits in
    let some = s.some in
    let below = all_below digits (tail_octets _ digits head s.parts fits) in
    let bound : n < 256 ^ length digits = omega (arith, number_below digits (tail_octets _ digits head s.parts fits), s.value) in
    elim (cases_lt n 128) [
      | inl lt ↦ absurd (let short = rw (lt-ltb _ _ lt) at few in omega (arith, short, ap length s.parts))
      | inr le ↦
          let short = rw (le-ltb _ _ le) at few in
          let least = length-digits_of-le 256 (length digits) n (omega arith) bound in
          let len : length digits ≡ length (digits_of 256 n) = omega (arith, short, least, ap length s.parts) in
          let same = same_digits 256 digits (digits_of 256 n) len below (all_below_base_digits_of 256 n (omega arith)) (s.value ∙ sym (number_digits_of 256 n (omega arith))) in
          s.parts ∙ ap (λ (d : List ℕ). (128 + length d) ∷ d) same ∙ rw (le-ltb _ _ le) refl
    ]

pub one_shortest_tlv : (tag : ℕ) (content octets : List ℕ) → EachIsOctet octets → IsTlv tag content octets → length octets ≤ length (canon_tlv tag content) → octets ≡ canon_tlv tag content
unfolding canon_tlv
one_shortest_tlv tag content octets fits t few =
    let rest : EachIsOctet (t.head ++ content) = tail_octets tag (t.head ++ content) octets t.parts fits in
    let short : length t.head ≤ length (canon_length (length content)) = omega (arith, few, ap length t.parts, length-append t.head content, length-append (canon_length (length content)) content) in
    t.parts ∙ ap (λ (h : List ℕ). tag ∷ (h ++ content)) (one_length t.head (length content) (front_octets t.head content rest) t.counts short)

-- ---- numbers in two's complement

pos_same : (m n : ℕ) → pos m ≡ pos n → m ≡ n
pos_same m n e = cc

both_low : (a b : ℕ) (rest others : List ℕ) → a < 128 → b < 128 → twos_complement (a ∷ rest) ≡ twos_complement (b ∷ others) → number (a ∷ rest) ≡ number (b ∷ others)
both_low a b rest others p q same = pos_same _ _ (sym (low_signed a rest p) ∙ same ∙ low_signed b others q)

both_high : (a b : ℕ) (rest others : List ℕ) → 128 ≤ a → 128 ≤ b → length rest ≡ length others → twos_complement (a ∷ rest) ≡ twos_complement (b ∷ others) → number (a ∷ rest) ≡ number (b ∷ others)
both_high a b rest others p q len same =
    let mine = high_signed a rest p in
    let yours = high_signed b others q in
    let power : 256 ^ length (a ∷ rest) ≡ 256 ^ length (b ∷ others) = ap (λ (k : ℕ). 256 ^ suc k) len in
    omega (arith, ints, mine, yours, power, same)

not_both : (a b : ℕ) (rest others : List ℕ) → EachIsOctet (b ∷ others) → a < 128 → 128 ≤ b → twos_complement (a ∷ rest) ≡ twos_complement (b ∷ others) → ⊥
not_both a b rest others fits p q same =
    let mine = low_signed a rest p in
    let yours = high_signed b others q in
    let below = number_below (b ∷ others) fits in
    omega (arith, ints, mine, yours, below, same)

same_number : (a b : ℕ) (rest others : List ℕ) → EachIsOctet (a ∷ rest) → EachIsOctet (b ∷ others) → length rest ≡ length others → twos_complement (a ∷ rest) ≡ twos_complement (b ∷ others) → number (a ∷ rest) ≡ number (b ∷ others)
same_number a b rest others fits also len same =
    elim (cases_lt a 128) [
      | inl p ↦ elim (cases_lt b 128) [ inl q ↦ both_low a b rest others p q same | inr q ↦ absurd (not_both a b rest others also p q same) ]
      | inr p ↦ elim (cases_lt b 128) [ inl q ↦ absurd (not_both b a others rest fits q p (sym same)) | inr q ↦ both_high a b rest others p q len same ]
    ]

pub one_content : (content other : List ℕ) → EachIsOctet content → EachIsOctet other → length content ≡ length other → twos_complement content ≡ twos_complement other → content ≡ other
one_content [] [] fits also len same = refl
one_content [] (b ∷ others) fits also len same = absurd (omega arith)
one_content (a ∷ rest) [] fits also len same = absurd (omega arith)
one_content (a ∷ rest) (b ∷ others) fits also len same =
    let equal = same_number a b rest others fits also (omega arith) same in
    same_digits 256 (a ∷ rest) (b ∷ others) len (all_below (a ∷ rest) fits) (all_below (b ∷ others) also) equal

pub one_integer : (content : List ℕ) (z : ℤ) → EachIsOctet content → IsInteger content z → length content ≤ length (canon_integer z) → content ≡ canon_integer z
one_integer content z fits i few =
    let c = canon_integer_encodes z (integer_fits content z fits i) in
    let least = no_shorter_integer content z fits i in
    one_content content (canon_integer z) fits (canon_integer_octets z) (omega arith) (i.value ∙ sym c.value)

pub one_unsigned : (width : ℕ) (content : List ℕ) (n : ℕ) → width ≤ 8 → EachIsOctet content → IsUnsigned width content n → length content ≤ length (canon_unsigned n) → content ≡ canon_unsigned n
one_unsigned width content n narrow fits u few =
    let power = power_le width 8 narrow in
    let bound : n < 2 ^ 64 = omega (arith, u.fits, power) in
    let least = no_shorter_unsigned width content n narrow fits u in
    one_content content (canon_unsigned n) fits (canon_unsigned_octets n) (omega arith) (u.value ∙ sym (canon_unsigned_value n bound))
