-- A number below 128 has one octet.
use Rattle.std.proofs.Common.{◌≡◌, ◌∙◌, ℕ, ℤ, ◌%◌, ◌<◌, List, [], ◌∷◌, ◌++◌, length, refl, ap, arith}
use Rattle.std.specs.Int.{w32, byte_at, to_be_bytes, cast_unsigned}
use Rattle.std.proofs.lemmas.Bool.{lt-ltb}
use Rattle.ber_core.specs.Encoding.{shortest, canon_length, canon_tlv, canon_integer, canon_unsigned}
use Rattle.ber_core.proofs.Contents.{unsigned_of_four}

four_of_small : (n : ℕ) → n < 128 → to_be_bytes w32 n ≡ 0 ∷ 0 ∷ 0 ∷ n ∷ []
four_of_small n few =
    let a : byte_at 3 n ≡ 0 = omega arith in
    let b : byte_at 2 n ≡ 0 = omega arith in
    let c : byte_at 1 n ≡ 0 = omega arith in
    let d : byte_at 0 n ≡ n = omega arith in
    cc

one_of_four : (n : ℕ) → n < 128 → shortest (0 ∷ 0 ∷ 0 ∷ n ∷ []) ≡ n ∷ []
one_of_four n few = rw (lt-ltb _ _ few) refl

one_of_five : (n : ℕ) → n < 128 → shortest (0 ∷ 0 ∷ 0 ∷ 0 ∷ n ∷ []) ≡ n ∷ []
one_of_five n few = rw (lt-ltb _ _ few) refl

one_tlv : (tag n : ℕ) (content : List ℕ) → content ≡ n ∷ [] → canon_tlv tag content ≡ tag ∷ 1 ∷ n ∷ []
unfolding canon_tlv
one_tlv tag n content is = ap (λ (c : List ℕ). tag ∷ (canon_length (length c) ++ c)) is

small_content : (z : ℤ) → cast_unsigned w32 z < 128 → canon_integer z ≡ cast_unsigned w32 z ∷ []
unfolding canon_integer
small_content z few = ap shortest (four_of_small _ few) ∙ one_of_four _ few

pub small_integer : (tag : ℕ) (z : ℤ) → cast_unsigned w32 z < 128 → canon_tlv tag (canon_integer z) ≡ tag ∷ 1 ∷ cast_unsigned w32 z % 256 ∷ []
small_integer tag z few =
    let whole : cast_unsigned w32 z ≡ cast_unsigned w32 z % 256 = omega (arith, few) in
    one_tlv tag (cast_unsigned w32 z % 256) (canon_integer z) (small_content z few ∙ ap (λ (k : ℕ). k ∷ []) whole)

pub small_unsigned : (tag n : ℕ) → n < 128 → canon_tlv tag (canon_unsigned n) ≡ tag ∷ 1 ∷ n % 256 ∷ []
small_unsigned tag n few =
    let whole : n ≡ n % 256 = omega (arith, few) in
    one_tlv tag (n % 256) (canon_unsigned n) (unsigned_of_four n (omega (arith, few)) ∙ ap (λ (b : List ℕ). shortest (0 ∷ b)) (four_of_small n few) ∙ one_of_five n few ∙ ap (λ (k : ℕ). k ∷ []) whole)
