-- A dotted text is the name that the function reads, and the function reads only dotted texts.
use Rattle.std.proofs.Common.{◌≡◌, ℕ, ◌<◌, ◌^◌, true, false, ◌&&◌, not, eqb, ltb, List, [], ◌∷◌, length, get_or, map, Option, Some, None, option_map, option_and_then, refl, sym, ap, ◌∙◌, arith, inl, inr, ◌⊎◌}
use Rattle.std.specs.Fmt.{decimal}
use Rattle.std.specs.List.{AllByRecursion, join_with_byte}
use Rattle.std.specs.Str.{all_ascii_digits}
use Rattle.std.specs.Str.Parse.{digits_value}
use Rattle.std.proofs.lemmas.Bool.{cases_Bool, ltb-true, lt-ltb, ne_eqb, eqb-false, not-true, and_parts}
use Rattle.std.proofs.lemmas.Fmt.{digits_decimal, digits_value-decimal, decimal-digits_value, decimal_nonempty}
use Rattle.std.proofs.lemmas.List.{length-map}
use Rattle.std.proofs.lemmas.List.Splits.{length-slice_split, join_with_byte-slice_split}
use Rattle.std.proofs.lemmas.Str.Parse.{IsNumeralModel, numerals_by_value, tells_all_ascii_digits}
use Rattle.oid_core.specs.Text.{IsDotted, pieces}
use Rattle.oid_core.specs.TextValue.{all_of, is_numeral, number_of_text, name_of_text}
use Rattle.oid_core.proofs.Texts.{pieces_dotted, no_leading_zero}

-- ---- one number

tested : IsNumeralModel (λ ds. all_ascii_digits ds ≡ true) (digits_value 10)
tested = numerals_by_value (λ ds. all_ascii_digits ds ≡ true) tells_all_ascii_digits

-- digits, at least one, of which the first is 0 only alone
record IsPlain (text : List ℕ) : Type 0 where
  digits : all_ascii_digits text ≡ true
  some : 0 < length text
  first : get_or text 0 0 ≡ 48 → length text ≡ 1

numeral_from : (text : List ℕ) → IsPlain text → is_numeral text ≡ true
numeral_from [] h = absurd (omega (arith, h.some))
numeral_from (c ∷ []) h = h.digits
numeral_from (c ∷ d ∷ ds) h =
    let other : eqb c 48 ≡ false = ne_eqb c 48 (λ e. let one = h.first e in omega arith) in
    rw (h.digits, other)

numeral_is : (text : List ℕ) → is_numeral text ≡ true → IsPlain text
numeral_is [] h = absurd cc
numeral_is (c ∷ []) h = record { digits = h; some = omega arith; first = λ e. refl }
numeral_is (c ∷ d ∷ ds) h =
    let p = and_parts (all_ascii_digits (c ∷ d ∷ ds)) (not (eqb c 48)) h in
    record { digits = p.0; some = omega arith; first = λ e. absurd (eqb-false c 48 (not-true (eqb c 48) p.1) e) }

plain_decimal : (n : ℕ) → n < 2 ^ 32 → IsPlain (decimal n)
plain_decimal n h =
    let wide : n < 2 ^ 64 = omega arith in
    let some = decimal_nonempty n wide in
    record {
      digits = digits_decimal tested n wide;
      some = some;
      first = λ e. elim (cases_long (decimal n) some) [
        | inl one ↦ one
        | inr more ↦ absurd (no_leading_zero n h more e)
      ];
    }
  where
    cases_long : (text : List ℕ) → 0 < length text → (length text ≡ 1) ⊎ (1 < length text)
    cases_long [] s = absurd (omega arith)
    cases_long (c ∷ []) s = inl refl
    cases_long (c ∷ d ∷ ds) s = inr (omega arith)

number_printed : (n : ℕ) → n < 2 ^ 32 → number_of_text (decimal n) ≡ Some n
unfolding number_of_text
number_printed n h =
    let wide : n < 2 ^ 64 = omega arith in
    rw (numeral_from (decimal n) (plain_decimal n h), digits_value-decimal tested n wide, lt-ltb n (2 ^ 32) h)

number_read : (text : List ℕ) (n : ℕ) → number_of_text text ≡ Some n → (text ≡ decimal n) × (n < 2 ^ 32)
unfolding number_of_text
number_read text n e =
    elim (cases_Bool (is_numeral text && ltb (digits_value 10 text) (2 ^ 32))) [
      | inr bad ↦ absurd (let k = rw bad at e in cc)
      | inl good ↦
          let k = rw good at e in
          let same : n ≡ digits_value 10 text = cc in
          let p = and_parts (is_numeral text) (ltb (digits_value 10 text) (2 ^ 32)) good in
          let below = ltb-true (digits_value 10 text) (2 ^ 32) p.1 in
          let plain = numeral_is text p.0 in
          rw same (sym (decimal-digits_value tested text plain.digits plain.some plain.first (omega (arith, below))), below)
    ]

-- ---- all of them

numbers_printed : (name : List ℕ) → AllByRecursion (λ n. n < 2 ^ 32) name → all_of number_of_text (map decimal name) ≡ Some name
numbers_printed [] each = refl
numbers_printed (n ∷ ns) each = rw (number_printed n each.0, numbers_printed ns each.1)

bound : {A B : Type 0} (f : A → Option B) (o : Option A) (y : B) → option_and_then f o ≡ Some y → (x : A) × (o ≡ Some x) × (f x ≡ Some y)
bound f None y e = absurd cc
bound f (Some x) y e = (x, refl, e)

mapped : {A B : Type 0} (f : A → B) (o : Option A) (y : B) → option_map f o ≡ Some y → (x : A) × (o ≡ Some x) × (y ≡ f x)
mapped f None y e = absurd cc
mapped f (Some x) y e = (x, refl, (let same : y ≡ f x = cc in same))

numbers_read : (parts : List (List ℕ)) (name : List ℕ) → all_of number_of_text parts ≡ Some name → (parts ≡ map decimal name) × AllByRecursion (λ n. n < 2 ^ 32) name
numbers_read [] name e =
    let same : name ≡ [] = cc in
    rw same (refl, tt)
numbers_read (p ∷ ps) name e =
    let b = bound (λ y. option_map (λ ys. y ∷ ys) (all_of number_of_text ps)) (number_of_text p) name e in
    let m = mapped (λ ys. b.0 ∷ ys) (all_of number_of_text ps) name b.2 in
    let head = number_read p b.0 b.1 in
    let tail = numbers_read ps m.0 m.1 in
    rw m.2 (ap (λ (t : List ℕ). t ∷ ps) head.0 ∙ ap (λ (t : List (List ℕ)). decimal b.0 ∷ t) tail.0, (head.1, tail.1))

pub dotted_read : (text name : List ℕ) → IsDotted text name → name_of_text text ≡ Some name
unfolding name_of_text
dotted_read text name d = rw (pieces_dotted text name d) (numbers_printed name d.each)

pub read_dotted : (text name : List ℕ) → name_of_text text ≡ Some name → IsDotted text name
unfolding name_of_text
read_dotted text name e =
    let r = numbers_read (pieces text) name e in
    record {
      some = omega (arith, ap length r.0, length-slice_split (λ b. eqb b 46) text, length-map name decimal);
      each = r.1;
      parts = sym (join_with_byte-slice_split 46 text) ∙ ap (join_with_byte 46) r.0;
    }

pub none_dotted : (text : List ℕ) → ((name : List ℕ) → IsDotted text name → ⊥) → (o : Option (List ℕ)) → name_of_text text ≡ o → o ≡ None
none_dotted text none None e = refl
none_dotted text none (Some name) e = absurd (none name (read_dotted text name e))

pub none_read : (text : List ℕ) → name_of_text text ≡ None → (name : List ℕ) → IsDotted text name → ⊥
none_read text e name d = let k = dotted_read text name d in cc
