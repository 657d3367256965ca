-- How a line is cut into words, and what digits write.
use Rattle.std.proofs.Common.{◌≡◌, ◌≢◌, ℕ, zero, suc, ◌+◌, ◌-◌, ◌*◌, ◌<◌, ◌≤◌, true, false, eqb, List, [], ◌∷◌, length, take, drop, get_or, Option, Some, None, option_map, refl, ap, ◌∙◌, ne_eqb, eq-eqb, arith, rules, inl, inr, nat_le, ◌^◌, decimal, sym, ◌++◌, All, IfSome, IfNone, leb-true, IsSome, ◌%◌}
use Rattle.std.proofs.lemmas.Bool.{and_parts, cases_Bool, eqb-true}
use Rattle.std.specs.List.{list_all}
use Rattle.std.specs.Char.{is_ascii_digit}
use Rattle.std.proofs.lemmas.List.{drop_more}
use Rattle.std.proofs.lemmas.Str.Parse.{IsNumeralModel, numerals_by_fold}
use Rattle.std.proofs.lemmas.Fmt.{digits_decimal, digits_value-decimal, decimal-digits_value, first_decimal, decimal_nonempty, decimal_digit}
use Rattle.std.specs.Str.{all_ascii_digits}
use Rattle.script_core.specs.Words.{split_word, is_number, value_on, number_of}
use Rattle.std.proofs.lemmas.List.Elements.{All-nil, All-cons}
use Rattle.std.specs.List.{AllPass}
use Rattle.hex.specs.Hex.{is_hex_digit}
use Rattle.hex.proofs.HexLemmas.{decode_of-digits}
use Rattle.script_core.specs.Words.{octets_of}

-- a line is cut at its first space
pub split_word_at : (xs : List ℕ) (i : ℕ) → i < length xs → ((k : ℕ) → k < i → get_or xs k 0 ≢ 32) → get_or xs i 0 ≡ 32
    → split_word xs ≡ Some (take i xs, drop (suc i) xs)
split_word_at [] i h before here = absurd (omega arith)
split_word_at (x ∷ xs) zero h before here = rw (eq-eqb x 32 here)
split_word_at (x ∷ xs) (suc i) h before here =
    rw (ne_eqb x 32 (before 0 (omega arith)), split_word_at xs i (omega arith) (λ k below. before (suc k) (omega arith)) here)

pub split_word_none : (xs : List ℕ) → ((k : ℕ) → k < length xs → get_or xs k 0 ≢ 32) → split_word xs ≡ None
split_word_none [] before = refl
split_word_none (x ∷ xs) before =
    rw (ne_eqb x 32 (before 0 (omega arith)), split_word_none xs (λ k below. before (suc k) (omega arith)))

-- each octet is a digit
abbrev pub IsDigits : List ℕ → Type 0
IsDigits word = (k : ℕ) → k < length word → (48 ≤ get_or word k 0) × (get_or word k 0 ≤ 57)

-- more digits make no less
pub value_on-le : (n : ℕ) (ds : List ℕ) → n ≤ value_on n ds
value_on-le n [] = omega arith
value_on-le n (d ∷ ds) = omega (arith, value_on-le (n * 10 + (d - 48)) ds)

-- where the test of all digits is true, each octet is one
pub IsDigits-of_test : (word : List ℕ) → list_all is_ascii_digit word ≡ true → IsDigits word
IsDigits-of_test [] h k below = absurd (omega arith)
IsDigits-of_test (d ∷ ds) h zero below = search rules
IsDigits-of_test (d ∷ ds) h (suc k) below = IsDigits-of_test ds (and_parts (is_ascii_digit d) (list_all is_ascii_digit ds) h).1 k (omega arith)

-- a value above the most is refused
pub number_of-large : (most : ℕ) (word : List ℕ) → most < value_on 0 word → number_of most word ≡ None
number_of-large most word above =
    let large : nat_le (value_on 0 word) most ≡ false = search rules in
    elim (cases_Bool (is_number word)) [ inl good ↦ rw (good, large) | inr bad ↦ rw bad ]

-- what stands above the most after some digits stays there
pub value_on-above : (most n i : ℕ) (word : List ℕ) → i < length word → value_on n (drop i word) ≡ value_on 0 word
    → most < n * 10 + (get_or word i 0 - 48) → most < value_on 0 word
value_on-above most n i word h so_far above =
    let next = value_on-le (n * 10 + (get_or word i 0 - 48)) (drop (i + 1) word) in
    let here : value_on n (drop i word) ≡ value_on (n * 10 + (get_or word i 0 - 48)) (drop (i + 1) word) = rw (drop_more word i 0 h) in
    omega (arith, next, here, so_far)

-- digits with no leading zero are what is printed of their value
own : IsNumeralModel (λ ds. all_ascii_digits ds ≡ true) (value_on 0)
own = numerals_by_fold _ (search rules) value_on (search rules)

list_all-digits : (ds : List ℕ) → list_all is_ascii_digit ds ≡ all_ascii_digits ds
list_all-digits [] = refl
list_all-digits (d ∷ ds) = rw (list_all-digits ds)

-- a text of digits that is 0 or does not begin with 0
record IsPlain (ds : List ℕ) : Type 0 where
  digits : all_ascii_digits ds ≡ true
  some : 0 < length ds
  first : get_or ds 0 0 ≡ 48 → length ds ≡ 1

is_number-plain : (ds : List ℕ) → IsPlain ds → is_number ds ≡ true
is_number-plain [] h = absurd (omega (arith, h.some))
is_number-plain (d ∷ ds) h =
    let long : eqb (length (d ∷ ds)) 0 ≡ false = ne_eqb (length (d ∷ ds)) 0 (λ e. absurd (omega (arith, h.some, e))) in
    elim (cases_Bool (eqb d 48)) [
      | inl zero_first ↦ rw (long, zero_first, h.first (eqb-true d 48 zero_first))
      | inr other ↦ rw (long, other, list_all-digits (d ∷ ds), h.digits)
    ]

first-decimal : (n : ℕ) → n < 2 ^ 64 → get_or (decimal n) 0 0 ≡ 48 → length (decimal n) ≡ 1
first-decimal zero h e = ap length (decimal_digit 0 (omega arith))
first-decimal (suc n) h e = let above = first_decimal (suc n) (omega arith) h in absurd (omega (arith, above, e))

IsPlain-decimal : (n : ℕ) → n < 2 ^ 64 → IsPlain (decimal n)
IsPlain-decimal n h = record {
  digits = digits_decimal own n h;
  some = decimal_nonempty n h;
  first = first-decimal n h;
}

number_of-decimal : (most n : ℕ) → n ≤ most → most < 2 ^ 64 → number_of most (decimal n) ≡ Some n
number_of-decimal most n low high =
    let fits : n < 2 ^ 64 = omega arith in
    let within : nat_le n most ≡ true = search rules in
    rw (is_number-plain (decimal n) (IsPlain-decimal n fits), digits_value-decimal own n fits, within)

-- a number that is printed is read, and gives the number
pub number_of_printed : (most n : ℕ) (word : List ℕ) → n ≤ most → most < 2 ^ 64 → word ≡ decimal n → number_of most word ≡ Some n
number_of_printed most n word low high e = rw e (number_of-decimal most n low high)

-- ---- what a line that is cut is

-- the value before a map that gave one
some_mapped : {A B : Type 0} (f : A → B) (o : Option A) (q : B) → option_map f o ≡ Some q → (p : A) × (o ≡ Some p) × (f p ≡ q)
some_mapped f None q e = cc e
some_mapped f (Some p) q e = (p, refl, cc e)

none_mapped : {A B : Type 0} (f : A → B) (o : Option A) → option_map f o ≡ None → o ≡ None
none_mapped f None e = refl
none_mapped f (Some p) e = cc e

-- a line is its first word, a space and the rest
pub record IsCut (line word rest : List ℕ) : Type 0 where
  pub whole : line ≡ word ++ (32 ∷ rest)
  pub no_space : All (λ b. b ≢ 32) word

split_word-cut : (line : List ℕ) (q : List ℕ × List ℕ) → split_word line ≡ Some q → IsCut line q.0 q.1
split_word-cut [] q e = cc e
split_word-cut (b ∷ bs) q e =
    elim (cases_Bool (eqb b 32)) [
      | inl space ↦
          let made : ([], bs) ≡ q = cc (rw space at e) in
          rw (← made) (record { whole = ap (λ x. x ∷ bs) (eqb-true b 32 space); no_space = All-nil (λ x. x ≢ 32) })
      | inr other ↦
          let s = some_mapped _ (split_word bs) q (rw other at e) in
          let rest = split_word-cut bs s.0 s.1 in
          rw (← s.2) (record {
            whole = ap (λ x. b ∷ x) rest.whole;
            no_space = All-cons (λ x. x ≢ 32) b s.0.0 (λ same. cc (sym other ∙ eq-eqb b 32 same)) rest.no_space;
          })
    ]

split_word-whole : (line : List ℕ) → split_word line ≡ None → All (λ b. b ≢ 32) line
split_word-whole [] e = All-nil (λ x. x ≢ 32)
split_word-whole (b ∷ bs) e =
    elim (cases_Bool (eqb b 32)) [
      | inl space ↦ cc (rw space at e)
      | inr other ↦
          All-cons (λ x. x ≢ 32) b bs (λ same. cc (sym other ∙ eq-eqb b 32 same))
          (split_word-whole bs (none_mapped _ (split_word bs) (rw other at e)))
    ]

pub cut_from_value : {A : Type 0} (word rest : A → List ℕ) (o : Option A) (line : List ℕ) → option_map (λ p. (word p, rest p)) o ≡ split_word line
    → IfSome o (λ p. (line ≡ word p ++ (32 ∷ rest p)) × All (λ b. b ≢ 32) (word p))
cut_from_value word rest None line e = tt
cut_from_value word rest (Some p) line e = let c = split_word-cut line _ (sym e) in (c.whole, c.no_space)

pub whole_from_value : {A : Type 0} (word rest : A → List ℕ) (o : Option A) (line : List ℕ) → option_map (λ p. (word p, rest p)) o ≡ split_word line
    → IfNone o (All (λ b. b ≢ 32) line)
whole_from_value word rest None line e = split_word-whole line (sym e)
whole_from_value word rest (Some p) line e = tt

-- ---- what is read is what the word writes

is_plain-number : (ds : List ℕ) → is_number ds ≡ true → IsPlain ds
is_plain-number [] h = cc h
is_plain-number (d ∷ []) h = elim (cases_Bool (eqb d 48)) [
  | inl zero_first ↦ record { digits = rw (eqb-true d 48 zero_first); some = omega arith; first = λ e. refl }
  | inr other ↦ record { digits = sym (list_all-digits (d ∷ [])) ∙ (rw other at h); some = omega arith; first = λ e. refl }
]
is_plain-number (d ∷ e ∷ ds) h = elim (cases_Bool (eqb d 48)) [
  | inl zero_first ↦
      let long : eqb (length (d ∷ e ∷ ds)) 0 ≡ false = ne_eqb (length (d ∷ e ∷ ds)) 0 (λ none. absurd (omega (arith, none))) in
      let one = eqb-true (length (d ∷ e ∷ ds)) 1 (rw (long, zero_first) at h) in
      absurd (omega (arith, one))
  | inr other ↦
      let long : eqb (length (d ∷ e ∷ ds)) 0 ≡ false = ne_eqb (length (d ∷ e ∷ ds)) 0 (λ none. absurd (omega (arith, none))) in
      record {
        digits = sym (list_all-digits (d ∷ e ∷ ds)) ∙ (rw (long, other) at h);
        some = omega arith;
        first = λ same. cc (sym other ∙ eq-eqb d 48 same);
      }
]

pub number_of_read : (most : ℕ) (word : List ℕ) (o : Option ℕ) → most < 2 ^ 64 → o ≡ number_of most word
    → IfSome o (λ n. (n ≤ most) × (word ≡ decimal n))
number_of_read most word None high e = tt
number_of_read most word (Some n) high e =
    elim (cases_Bool (is_number word)) [
      | inr bad ↦ cc (rw bad at e)
      | inl good ↦ elim (cases_Bool (nat_le (value_on 0 word) most)) [
        | inr above ↦ cc (rw (good, above) at e)
        | inl within ↦
            let same : n ≡ value_on 0 word = cc (rw (good, within) at e) in
            let small : value_on 0 word ≤ most = search (rules, leb-true) in
            let plain = is_plain-number word good in
            rw same (small, sym (decimal-digits_value own word plain.digits plain.some plain.first (omega arith)))
      ]
    ]

-- ---- hexadecimal

-- a text of an even count of digits writes octets, and no other does
octets_of-even : (text : List ℕ) (octets : Option (List ℕ)) → octets ≡ octets_of text → (length text % 2 ≡ 0) × AllPass is_hex_digit text → IsSome octets
octets_of-even text octets e digits =
    let ok = decode_of-digits text digits.0 digits.1 in
    rw (e, ok.1) refl

pub octets_of-none : (text : List ℕ) → None ≡ octets_of text → (length text % 2 ≡ 0) × AllPass is_hex_digit text → false ≡ true
octets_of-none text e digits = octets_of-even text None e digits
