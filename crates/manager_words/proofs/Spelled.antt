-- No text is that of two numbers, two names, two values or two bindings.
use Rattle.std.proofs.Common.{◌≡◌, ◌≢◌, ℕ, suc, ◌^◌, ◌<◌, ◌≤◌, pos, negsuc, ℤ, FitsSigned, get_or, drop, List, [], ◌∷◌, ◌++◌, length, codes, Option, Some, None, refl, sym, ap, ◌∙◌, inl, inr, ◌⊎◌, arith}
use Rattle.std.specs.Int.{w32}
use Rattle.std.specs.Int.Signed.{mag}
use Rattle.std.specs.Fmt.{decimal}
use Rattle.std.specs.List.{before_first, after_first}
use Rattle.std.proofs.lemmas.Fmt.{signed_decimal_injective}
use Rattle.std.proofs.lemmas.Int.{ints}
use Rattle.oid_core.proofs.Texts.{first_digit, one_name}
use Rattle.message_core.specs.Encodable.{IsEncodableValue, IsEncodableBinding}
use Rattle.message_core.specs.declared.binding.Binding.{Binding}
use Rattle.message_core.specs.declared.value.Value.{Value}
use Rattle.message_core.specs.declared.value.Value.TheVariants.{Integer, OctetString, Null, ObjectIdentifier, IpAddress, Counter32, Gauge32, TimeTicks, Opaque, Counter64, NoSuchObject, NoSuchInstance, EndOfMibView}
use Rattle.manager_words.specs.Bindings.{Finds, IsPlainIntegerText, IsIntegerText, IsNameText, IsAskedText, IsOctetsText, IsValueText, IsSettingText, is_equals}

-- ---- numbers

mag_fits : (z : ℤ) → FitsSigned w32 z → mag z < 2 ^ 63
mag_fits (pos n) fits = omega (arith, ints, fits)
mag_fits (negsuc n) fits = omega (arith, ints, fits)

pub one_integer : (text : List ℕ) (y z : ℤ) → IsIntegerText text y → IsIntegerText text z → y ≡ z
one_integer text y z a b =
    signed_decimal_injective y z (mag_fits y a.fits) (mag_fits z b.fits) (sym a.spelled ∙ b.spelled)

-- digits do not begin with a minus
pub no_minus : (n : ℕ) (rest : List ℕ) → n < 2 ^ 32 → 45 ∷ rest ≡ decimal n → ⊥
no_minus n rest fits same =
    let first : 45 ≡ get_or (decimal n) 0 0 = ap (λ (t : List ℕ). get_or t 0 0) same in
    omega (arith, first_digit n fits, first)

-- what stands behind a minus are the digits of a number that is not 0
behind_minus : (text rest : List ℕ) (z : ℤ) → 1 ≤ length text → get_or text 0 0 ≡ 45 → rest ≡ drop 1 text → IsIntegerText text z → (n : ℕ) × (0 < n) × (n ≤ 2147483648) × (rest ≡ decimal n)
behind_minus [] rest z some minus is says = absurd (omega arith)
behind_minus (x ∷ xs) rest (pos n) some minus is says =
    let small : n < 2 ^ 32 = omega (arith, ints, says.fits) in
    absurd (no_minus n xs small (ap (λ (y : ℕ). y ∷ xs) (sym minus) ∙ says.spelled))
behind_minus (x ∷ xs) rest (negsuc n) some minus is says =
    let most : suc n ≤ 2147483648 = omega (arith, ints, says.fits) in
    let digits : xs ≡ decimal (suc n) = cc (says.spelled) in
    (suc n, omega arith, most, is ∙ digits)

pub no_integer : (text rest : List ℕ) (found : Option ℕ) → 1 ≤ length text → get_or text 0 0 ≡ 45 → rest ≡ drop 1 text → ((n : ℕ) → n ≤ 2147483648 → rest ≡ decimal n → found ≡ Some n) → ((n : ℕ) → 0 < n → found ≢ Some n) → (z : ℤ) → ¬ IsIntegerText text z
no_integer text rest found some minus is printed none z says =
    let b = behind_minus text rest z some minus is says in none b.0 b.1 (printed b.0 b.2 b.3)

plain_is : (text : List ℕ) (z : ℤ) → IsPlainIntegerText text z → IsIntegerText text z
plain_is text z says = record {
  fits = rw says.value (omega (arith, ints, says.most));
  spelled = rw says.value says.spelled;
}

is_plain : (text : List ℕ) (z : ℤ) → get_or text 0 0 ≢ 45 → IsIntegerText text z → IsPlainIntegerText text z
is_plain text (pos n) other says =
    record { n = n; most = omega (arith, ints, says.fits); spelled = says.spelled; value = refl }
is_plain text (negsuc n) other says =
    absurd (other (ap (λ (t : List ℕ). get_or t 0 0) says.spelled))

pub plain_found : (text : List ℕ) (r : Option ℤ) → get_or text 0 0 ≢ 45 → Finds (IsPlainIntegerText text) r → Finds (IsIntegerText text) r
plain_found text (Some z) other finds = plain_is text z finds
plain_found text None other finds = λ z says. finds z (is_plain text z other says)

-- ---- names and values

pub same_name : (word a b : List ℕ) → IsNameText word a → IsNameText word b → a ≡ b
same_name word a b p q = one_name word a b p.dotted q.dotted

same_octets : (text a b : List ℕ) → IsOctetsText text a → IsOctetsText text b → a ≡ b
same_octets text a b p q = let both = sym p.spelled ∙ q.spelled in cc both

-- What a text that is that of a value is: an INTEGER's, or that of octets.
record IsIntegerStated (text : List ℕ) (v : Value) : Type 0 where
  number : ℤ
  rest : List ℕ
  value : v ≡ Integer number
  parts : text ≡ codes "i:" ++ rest
  says : IsIntegerText rest number

record IsOctetsStated (text : List ℕ) (v : Value) : Type 0 where
  octets : List ℕ
  rest : List ℕ
  value : v ≡ OctetString octets
  parts : text ≡ codes "x:" ++ rest
  says : IsOctetsText rest octets

value_stated : (text : List ℕ) (v : Value) → IsValueText text v → IsIntegerStated text v ⊎ IsOctetsStated text v
value_stated text (Integer number) h =
    inl (record { number = number; rest = h.0; value = refl; parts = h.1; says = h.2 })
value_stated text (OctetString octets) h =
    inr (record { octets = octets; rest = h.0; value = refl; parts = h.1; says = h.2 })
value_stated text Null h = absurd h
value_stated text (ObjectIdentifier name) h = absurd h
value_stated text (IpAddress octets) h = absurd h
value_stated text (Counter32 n) h = absurd h
value_stated text (Gauge32 n) h = absurd h
value_stated text (TimeTicks n) h = absurd h
value_stated text (Opaque octets) h = absurd h
value_stated text (Counter64 n) h = absurd h
value_stated text NoSuchObject h = absurd h
value_stated text NoSuchInstance h = absurd h
value_stated text EndOfMibView h = absurd h

apart : (text rest more : List ℕ) → text ≡ codes "i:" ++ rest → text ≡ codes "x:" ++ more → ⊥
apart text rest more p q =
    let first : 105 ≡ 120 = ap (λ (t : List ℕ). get_or t 0 0) (sym p ∙ q) in omega (arith, first)

behind_two : (a b : ℕ) (xs ys : List ℕ) → a ∷ (b ∷ xs) ≡ a ∷ (b ∷ ys) → xs ≡ ys
behind_two a b xs ys e = cc e

same_value : (text : List ℕ) (a b : Value) → IsValueText text a → IsValueText text b → a ≡ b
same_value text a b p q =
    elim (value_stated text a p) [
      | inl i ↦ elim (value_stated text b q) [
        | inl j ↦
            let rests = behind_two 105 58 i.rest j.rest (sym i.parts ∙ j.parts) in
            let other : IsIntegerText i.rest j.number = rw rests j.says in
            i.value ∙ ap Integer (one_integer i.rest i.number j.number i.says other) ∙ sym j.value
        | inr j ↦ absurd (apart text i.rest j.rest i.parts j.parts)
      ]
      | inr i ↦ elim (value_stated text b q) [
        | inl j ↦ absurd (apart text j.rest i.rest j.parts i.parts)
        | inr j ↦
            let rests = behind_two 120 58 i.rest j.rest (sym i.parts ∙ j.parts) in
            let other : IsOctetsText i.rest j.octets = rw rests j.says in
            i.value ∙ ap OctetString (same_octets i.rest i.octets j.octets i.says other) ∙ sym j.value
      ]
    ]

-- ---- bindings

same_binding : (a b : Binding) → a.name ≡ b.name → a.value ≡ b.value → a ≡ b
same_binding a b name value =
    rw name (rw value refl)

pub same_asked : (word : List ℕ) (a b : Binding) → IsAskedText word a → IsAskedText word b → a ≡ b
same_asked word a b p q =
    same_binding a b (same_name word a.name b.name p.name q.name) (p.value ∙ sym q.value)

pub same_setting : (word : List ℕ) (a b : Binding) → IsSettingText word a → IsSettingText word b → a ≡ b
same_setting word a b p q =
    same_binding a b (same_name (before_first is_equals word) a.name b.name p.name q.name) (same_value (after_first is_equals word) a.value b.value p.value q.value)

-- each of these has an encoding
pub asked_encodable : (word : List ℕ) (b : Binding) → IsAskedText word b → IsEncodableBinding b
asked_encodable word b p = record { name = p.name.root; value = rw p.value tt }

stated_encodable : (text : List ℕ) (v : Value) → IsValueText text v → IsEncodableValue v
stated_encodable text v p = elim (value_stated text v p) [ inl i ↦ rw i.value tt | inr o ↦ rw o.value tt ]

pub setting_encodable : (word : List ℕ) (b : Binding) → IsSettingText word b → IsEncodableBinding b
setting_encodable word b p = record {
  name = p.name.root;
  value = stated_encodable (after_first is_equals word) b.value p.value;
}
