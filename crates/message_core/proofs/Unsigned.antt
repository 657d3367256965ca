-- What the content of a number that is not negative gives, where it writes none.
use Rattle.std.proofs.Common.{◌≡◌, ℕ, ℤ, pos, negsuc, ◌+◌, ◌^◌, true, false, ltb, eqb, cond, Bool, List, length, Result, Ok, Err, refl, ap, ◌∙◌}
use Rattle.ber_core.specs.Encoding.{twos_complement, IsUnsigned}
use Rattle.message_core.specs.declared.cause.DropCause.{DropCause}
use Rattle.message_core.specs.declared.cause.DropCause.TheVariants.{Malformed}
use Rattle.message_core.specs.FirstFault.{natural_of, unsigned_of}
use Rattle.message_core.proofs.Readers.{unsigned_found}

abbrev OnlyMalformed : Result ℕ DropCause → Type 0
OnlyMalformed (Ok n) = Unit {0}
OnlyMalformed (Err e) = e ≡ Malformed

test_only : (b : Bool) (x y : Result ℕ DropCause) → OnlyMalformed x → OnlyMalformed y → OnlyMalformed (cond b x y)
test_only true x y p q = p
test_only false x y p q = q

natural_only : (limit : ℕ) (z : ℤ) → OnlyMalformed (natural_of limit z)
natural_only limit (pos n) = test_only (ltb n limit) _ _ tt refl
natural_only limit (negsuc n) = refl

unsigned_faults : (width : ℕ) (content : List ℕ) → OnlyMalformed (unsigned_of width content)
unfolding unsigned_of
unsigned_faults width content = test_only (eqb (length content) 0) _ _ refl (test_only (ltb (width + 1) (length content)) _ _ refl (natural_only (256 ^ width) (twos_complement content)))

fault_is : (r : Result ℕ DropCause) (e : DropCause) → OnlyMalformed r → r ≡ Err e → e ≡ Malformed
fault_is (Ok n) e p is = absurd cc
fault_is (Err f) e p is = cc

pub unsigned_none : (width : ℕ) (content : List ℕ) → ((n : ℕ) → IsUnsigned width content n → ⊥) → unsigned_of width content ≡ Err Malformed
unsigned_none width content none = go (unsigned_of width content) refl where
  go : (r : Result ℕ DropCause) → unsigned_of width content ≡ r → unsigned_of width content ≡ Err Malformed
  go (Ok n) is = absurd (none n (unsigned_found width content n is))
  go (Err e) is = is ∙ ap (λ (f : DropCause). Err f) (fault_is (unsigned_of width content) e (unsigned_faults width content) is)
