-- The text of octets, by whether they are UTF-8.
use Rattle.std.proofs.Common.{◌≡◌, ℕ, Bool, true, false, if◌then◌else◌, List, Some, None, refl}
use Rattle.std.specs.Str.{IsUtf8, is_utf8}
use Rattle.std.proofs.lemmas.Str.{IsUtf8-from_is_utf8, is_utf8-from_IsUtf8}
use Rattle.policy_text.specs.Texts.{text_of}

pub text_kept : (octets : List ℕ) → IsUtf8 octets → text_of octets ≡ Some octets
text_kept octets h = rw (is_utf8-from_IsUtf8 octets h) refl

no_text : (octets : List ℕ) (b : Bool) → is_utf8 octets ≡ b → ¬ IsUtf8 octets → (if b then Some octets else None) ≡ None
no_text octets true e is_not = absurd (is_not (IsUtf8-from_is_utf8 octets e))
no_text octets false e is_not = refl

pub text_refused : (octets : List ℕ) → ¬ IsUtf8 octets → text_of octets ≡ None
text_refused octets is_not = no_text octets (is_utf8 octets) refl is_not
