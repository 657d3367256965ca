-- Dotted text, and its parts between the dots.
use Rattle.std.proofs.Common.{◌≡◌, ◌≢◌, ℕ, ◌<◌, ◌≤◌, ◌^◌, Bool, true, false, eqb, ◌==◌, List, [], ◌∷◌, ◌++◌, length, get_or, map, Option, Some, None, Result, Ok, Err, refl, sym, ap, subst, ◌∙◌, arith, inl, inr, lit<}
use Rattle.std.specs.Prelude.{IfSome, IfOk, IfErr, IsOk, IsOkAnd, slice_get}
use Rattle.std.specs.Char.{is_ascii_digit, digit_value}
use Rattle.std.specs.Fmt.{decimal}
use Rattle.std.specs.Int.{IsInRange}
use Rattle.std.specs.List.{AllByRecursion, join_with_byte, position_or_len, onto_first, flat_map}
use Rattle.std.specs.Result.{OkIff, result_ok}
use Rattle.std.specs.Str.Parse.{AllDigits, digits_value, ParsesUnsigned}
use Rattle.std.proofs.lemmas.Bool.{cases_lt, ne_eqb}
use Rattle.std.proofs.lemmas.Bool.Decides.{eqb_tells, nat_tests}
use Rattle.std.proofs.lemmas.Fmt.{decimal_is_IsNumeral, decimal_digit, first_decimal, decimal_injective, decimal-digits_value, parse-decimal}
use Rattle.std.proofs.lemmas.List.{length-append, append-nil, length-map}
use Rattle.std.proofs.lemmas.List.Splits.{length-slice_split, join_with_byte-slice_split}
use Rattle.std.proofs.lemmas.Str.Parse.{IsNumeralModel, numerals_by_value, tells_digits, digit_from_value, parse_plain, digit_at}
use Rattle.oid_core.specs.declared.fault.OidFault.{OidFault}
use Rattle.oid_core.specs.declared.fault.OidFault.TheVariants.{Memory, BadText, TooLong, BadContent, NoRoom}
use Rattle.oid_core.specs.declared.limits.TheConstants.{INLINE_NUMBERS}
use Rattle.oid_core.specs.Fault.{IsListFault}
use Rattle.oid_core.specs.Text.{dotted_text, IsDotted, IsTextFault, pieces}

-- ---- one number

own : IsNumeralModel (AllDigits 10) (digits_value 10)
own = numerals_by_value (AllDigits 10) tells_digits

wide : (n : ℕ) → n < 2 ^ 32 → n < 2 ^ 64
wide n lt = omega arith

digits_in : (n : ℕ) → n < 2 ^ 32 → (0 < length (decimal n)) × AllDigits 10 (decimal n)
digits_in n lt = (decimal_is_IsNumeral n (wide n lt)).0

pub first_digit : (n : ℕ) → n < 2 ^ 32 → IsInRange 48 57 (get_or (decimal n) 0 0)
first_digit n lt = digit_at (decimal n) 0 (digits_in n lt).1 (digits_in n lt).0

pub no_leading_zero : (n : ℕ) → n < 2 ^ 32 → 1 < length (decimal n) → get_or (decimal n) 0 0 ≢ 48
no_leading_zero n lt more zero =
    elim (cases_lt 0 n) [
      | inl some ↦ omega (arith, first_decimal n some (wide n lt))
      | inr none ↦
          let n-is : n ≡ 0 = omega arith in
          let one : length (decimal n) ≡ 1 = ap (λ (k : ℕ). length (decimal k)) n-is ∙ ap length (decimal_digit 0 (lit< tt)) in
          omega arith
    ]

pub number_found : {E : Type 0} (bs : List ℕ) (r : Result ℕ E) (n : ℕ) → ParsesUnsigned 32 10 bs r → get_or bs 0 0 ≢ 43 → (get_or bs 0 0 ≡ 48 → length bs ≡ 1) → r ≡ Ok n → bs ≡ decimal n
number_found {E = E} bs r n parsed plus lead e =
    let all = parse_plain own 32 bs r parsed plus in
    let at : OkIff {E = E} (Ok n) (AllDigits 10 bs × (0 < length bs) × (digits_value 10 bs < 2 ^ 32)) (digits_value 10 bs) =
    subst (λ (q : Result ℕ E). OkIff q (AllDigits 10 bs × (0 < length bs) × (digits_value 10 bs < 2 ^ 32)) (digits_value 10 bs)) e all in
    sym (decimal-digits_value own bs at.0.0 at.0.1 lead (wide (digits_value 10 bs) at.0.2)) ∙ ap decimal (sym at.1)

pub number_only : {E : Type 0} (bs : List ℕ) (r : Result ℕ E) (n : ℕ) → ParsesUnsigned 32 10 bs r → n < 2 ^ 32 → bs ≡ decimal n → r ≡ Ok n
number_only bs r n parsed lt e = parse-decimal 32 n bs r lt (wide n lt) e parsed

first_get : (bs : List ℕ) (b : ℕ) → Some b ≡ slice_get bs 0 → (get_or bs 0 0 ≡ b) × (0 < length bs)
first_get [] b e = absurd cc
first_get (x ∷ bs) b e = ((let same : b ≡ x = cc in sym same), omega arith)

pub none_first : (bs : List ℕ) (n : ℕ) → None ≡ slice_get bs 0 → n < 2 ^ 32 → bs ≡ decimal n → ⊥
none_first [] n e lt is = omega (arith, ap length is, (digits_in n lt).0)
none_first (x ∷ bs) n e lt is = absurd cc

pub not_digit : (bs : List ℕ) (b n : ℕ) → Some b ≡ slice_get bs 0 → is_ascii_digit b ≡ false → n < 2 ^ 32 → bs ≡ decimal n → ⊥
not_digit bs b n e other lt is =
    let get : get_or (decimal n) 0 0 ≡ b = ap (λ (t : List ℕ). get_or t 0 0) (sym is) ∙ (first_get bs b e).0 in
    let range = first_digit n lt in
    let low : 48 ≤ b = omega arith in
    let high : b ≤ 57 = omega arith in
    grind (arith, nat_tests)

pub leading_zero : (bs : List ℕ) (b n : ℕ) → Some b ≡ slice_get bs 0 → b ≡ 48 → 1 < length bs → n < 2 ^ 32 → bs ≡ decimal n → ⊥
leading_zero bs b n e zero more lt is =
    no_leading_zero n lt (omega (arith, ap length is)) (ap (λ (t : List ℕ). get_or t 0 0) (sym is) ∙ (first_get bs b e).0 ∙ zero)

no_plus : (bs : List ℕ) (b : ℕ) → Some b ≡ slice_get bs 0 → is_ascii_digit b ≡ true → get_or bs 0 0 ≢ 43
no_plus bs b e is_digit plus =
    let get = (first_get bs b e).0 in
    let is : b ≡ 43 = omega arith in
    grind (arith, nat_tests)

found_by : {E : Type 0} (bs : List ℕ) (r : Result ℕ E) (o : Option ℕ) → ParsesUnsigned 32 10 bs r → get_or bs 0 0 ≢ 43 → (get_or bs 0 0 ≡ 48 → length bs ≡ 1) → o ≡ result_ok r → IfSome o (λ n. bs ≡ decimal n)
found_by {E = E} bs (Ok n) o parsed plus lead e =
    let r : Result ℕ E = Ok n in
    let same : r ≡ Ok n = refl in
    subst (λ (q : Option ℕ). IfSome q (λ n. bs ≡ decimal n)) (sym e) (number_found {E = E} bs r n parsed plus lead same)
found_by bs (Err f) o parsed plus lead e = subst (λ (q : Option ℕ). IfSome q (λ n. bs ≡ decimal n)) (sym e) tt

pub parsed_found : {E : Type 0} (bs : List ℕ) (b : ℕ) (r : Result ℕ E) (o : Option ℕ) → Some b ≡ slice_get bs 0 → is_ascii_digit b ≡ true → (b ≡ 48 → length bs ≤ 1) → ParsesUnsigned 32 10 bs r → o ≡ result_ok r → IfSome o (λ n. bs ≡ decimal n)
parsed_found bs b r o e is_digit lead parsed is =
    let get = first_get bs b e in
    found_by bs r o parsed (no_plus bs b e is_digit) (λ (zero : get_or bs 0 0 ≡ 48). let few = lead (sym get.0 ∙ zero) in omega (arith, few, get.1)) is

pub parsed_only : {E : Type 0} (bs : List ℕ) (r : Result ℕ E) (o : Option ℕ) (n : ℕ) → ParsesUnsigned 32 10 bs r → o ≡ result_ok r → n < 2 ^ 32 → bs ≡ decimal n → o ≡ Some n
parsed_only bs r o n parsed is lt e = is ∙ ap result_ok (number_only bs r n parsed lt e)

-- ---- the parts between the dots

pub undivided : (bs : List ℕ) → position_or_len (λ b. b == 46) bs ≡ length bs → pieces bs ≡ bs ∷ []
undivided [] e = refl
undivided (b ∷ bs) e =
    elim (eqb_tells b 46) [
      | inl dot ↦ absurd (let h = rw dot.0 at e in omega arith)
      | inr other ↦ let h = rw other.0 at e in rw other.0 (ap (onto_first b) (undivided bs (omega arith)))
    ]

not_dot : (b : ℕ) → digit_value b < 10 → eqb b 46 ≡ false
not_dot b digit = let range = digit_from_value b digit in ne_eqb b 46 (λ (h : b ≡ 46). omega arith)

digits_alone : (bs : List ℕ) → AllDigits 10 bs → pieces bs ≡ bs ∷ []
digits_alone [] all = refl
digits_alone (b ∷ bs) all = rw (not_dot b all.0) (ap (onto_first b) (digits_alone bs all.1))

digits_first : (bs more : List ℕ) → AllDigits 10 bs → pieces (bs ++ 46 ∷ more) ≡ bs ∷ pieces more
digits_first [] more all = refl
digits_first (b ∷ bs) more all = rw (not_dot b all.0) (ap (onto_first b) (digits_first bs more all.1))

split_dotted : (name : List ℕ) → 1 ≤ length name → AllByRecursion (λ n. n < 2 ^ 32) name → pieces (dotted_text name) ≡ map decimal name
split_dotted [] some each = absurd (omega arith)
split_dotted (n ∷ []) some each = digits_alone (decimal n) (digits_in n each.0).1
split_dotted (n ∷ m ∷ ns) some each =
    digits_first (decimal n) (dotted_text (m ∷ ns)) (digits_in n each.0).1 ∙ ap (λ (t : List (List ℕ)). decimal n ∷ t) (split_dotted (m ∷ ns) (omega arith) each.1)

pub pieces_dotted : (text name : List ℕ) → IsDotted text name → pieces text ≡ map decimal name
pieces_dotted text name d = ap pieces d.parts ∙ split_dotted name d.some d.each

same_numbers : (a b : List ℕ) → AllByRecursion (λ n. n < 2 ^ 32) a → AllByRecursion (λ n. n < 2 ^ 32) b → map decimal a ≡ map decimal b → a ≡ b
same_numbers [] [] p q e = refl
same_numbers [] (y ∷ ys) p q e = absurd cc
same_numbers (x ∷ xs) [] p q e = absurd cc
same_numbers (x ∷ xs) (y ∷ ys) p q e =
    let head : decimal x ≡ decimal y = cc in
    let tail : map decimal xs ≡ map decimal ys = cc in
    let same = decimal_injective x y (wide x p.0) (wide y q.0) head in
    let others = same_numbers xs ys p.1 q.1 tail in
    cc

-- no text is that of two names
pub one_name : (text a b : List ℕ) → IsDotted text a → IsDotted text b → a ≡ b
one_name text a b p q = same_numbers a b p.each q.each (sym (pieces_dotted text a p) ∙ pieces_dotted text b q)

-- ---- reading number by number

-- what was read, what is left, what is kept, and whether that is less than what was read
pub record IsReadSoFar (text : List ℕ) (left : List (List ℕ)) (kept : List ℕ) (too_long : Bool) : Type 0 where
  pub done : List ℕ
  pub each : AllByRecursion (λ n. n < 2 ^ 32) done
  pub parts : pieces text ≡ map decimal done ++ left
  pub kept_all : too_long ≡ false → kept ≡ done
  pub long : too_long ≡ true → 128 < length done

pub so_far_start : (text : List ℕ) → IsReadSoFar text (pieces text) [] false
so_far_start text = record { done = []; each = tt; parts = refl; kept_all = λ e. refl; long = λ e. absurd cc }

pub each_more : (ns : List ℕ) (n : ℕ) → AllByRecursion (λ n. n < 2 ^ 32) ns → n < 2 ^ 32 → AllByRecursion (λ n. n < 2 ^ 32) (ns ++ n ∷ [])
each_more [] n each lt = (lt, tt)
each_more (m ∷ ns) n each lt = (each.0, each_more ns n each.1 lt)

map_more : (ns : List ℕ) (n : ℕ) (rest : List (List ℕ)) → map decimal ns ++ decimal n ∷ rest ≡ map decimal (ns ++ n ∷ []) ++ rest
map_more [] n rest = refl
map_more (m ∷ ns) n rest = ap (λ (t : List (List ℕ)). decimal m ∷ t) (map_more ns n rest)

parts_more : (text piece done : List ℕ) (left rest : List (List ℕ)) (n : ℕ) → pieces text ≡ map decimal done ++ left → left ≡ piece ∷ rest → piece ≡ decimal n → pieces text ≡ map decimal (done ++ n ∷ []) ++ rest
parts_more text piece done left rest n parts cut is =
    parts ∙ ap (λ (t : List (List ℕ)). map decimal done ++ t) (cut ∙ ap (λ (t : List ℕ). t ∷ rest) is) ∙ map_more done n rest

pub so_far_pushed : (text piece kept after : List ℕ) (left rest : List (List ℕ)) (n : ℕ) (too_long : Bool) → IsReadSoFar text left kept too_long → left ≡ piece ∷ rest → piece ≡ decimal n → n < 2 ^ 32
    → after ≡ kept ++ n ∷ [] → IsReadSoFar text rest after too_long
so_far_pushed text piece kept after left rest n too_long s cut is lt pushed = record {
  done = s.done ++ n ∷ [];
  each = each_more s.done n s.each lt;
  parts = parts_more text piece s.done left rest n s.parts cut is;
  kept_all = λ (e : too_long ≡ false). pushed ∙ ap (λ (t : List ℕ). t ++ n ∷ []) (s.kept_all e);
  long = λ (e : too_long ≡ true). (let more = s.long e in omega (arith, more, length-append s.done (n ∷ [])));
}

full_len : (kept done : List ℕ) (too_long : Bool) → length kept ≡ 128 → (too_long ≡ false → kept ≡ done) → (too_long ≡ true → 128 < length done) → 128 ≤ length done
full_len kept done true len all long = (let more = long refl in omega arith)
full_len kept done false len all long = (let same = all refl in omega (arith, ap length same))

pub so_far_full : (text piece kept after : List ℕ) (left rest : List (List ℕ)) (n : ℕ) (too_long : Bool) → IsReadSoFar text left kept too_long → left ≡ piece ∷ rest → piece ≡ decimal n → n < 2 ^ 32
    → length kept ≡ 128 → IsReadSoFar text rest after true
so_far_full text piece kept after left rest n too_long s cut is lt len = record {
  done = s.done ++ n ∷ [];
  each = each_more s.done n s.each lt;
  parts = parts_more text piece s.done left rest n s.parts cut is;
  kept_all = λ e. absurd cc;
  long = λ e. omega (arith, full_len kept s.done too_long len s.kept_all s.long, length-append s.done (n ∷ []));
}

-- a part that is followed by others, or by none, is one of a name's numbers
one_of : (done name piece : List ℕ) (rest : List (List ℕ)) → AllByRecursion (λ n. n < 2 ^ 32) name → map decimal done ++ piece ∷ rest ≡ map decimal name → (n : ℕ) × (n < 2 ^ 32) × (piece ≡ decimal n)
one_of [] [] piece rest each e = absurd cc
one_of [] (m ∷ name) piece rest each e = (m, each.0, cc)
one_of (n ∷ done) [] piece rest each e = absurd cc
one_of (n ∷ done) (m ∷ name) piece rest each e = one_of done name piece rest each.1 (cc)

pub so_far_bad : (text piece kept : List ℕ) (left rest : List (List ℕ)) (too_long : Bool) → IsReadSoFar text left kept too_long → left ≡ piece ∷ rest → ((n : ℕ) → n < 2 ^ 32 → piece ≡ decimal n → ⊥)
    → (name : List ℕ) → ¬ IsDotted text name
so_far_bad text piece kept left rest too_long s cut bad name d =
    let e : map decimal s.done ++ piece ∷ rest ≡ map decimal name = ap (λ (t : List (List ℕ)). map decimal s.done ++ t) (sym cut) ∙ sym s.parts ∙ pieces_dotted text name d in
    let found = one_of s.done name piece rest d.each e in
    bad found.0 found.1 found.2

done_dotted : (text done : List ℕ) (left : List (List ℕ)) → AllByRecursion (λ n. n < 2 ^ 32) done → pieces text ≡ map decimal done ++ left → left ≡ [] → IsDotted text done
done_dotted text done left each parts none =
    let all : pieces text ≡ map decimal done = parts ∙ ap (λ (t : List (List ℕ)). map decimal done ++ t) none ∙ append-nil (map decimal done) in
    record {
      some = omega (arith, ap length all, length-slice_split (λ b. eqb b 46) text, length-map done decimal);
      each = each;
      parts = sym (join_with_byte-slice_split 46 text) ∙ ap (join_with_byte 46) all;
    }

pub so_far_found : (text kept : List ℕ) (left : List (List ℕ)) (too_long : Bool) → IsReadSoFar text left kept too_long → left ≡ [] → too_long ≡ false → IsDotted text kept
so_far_found text kept left too_long s none all = subst (λ (t : List ℕ). IsDotted text t) (sym (s.kept_all all)) (done_dotted text s.done left s.each s.parts none)

pub so_far_long : (text kept : List ℕ) (left : List (List ℕ)) (too_long : Bool) → IsReadSoFar text left kept too_long → left ≡ [] → too_long ≡ true → (name : List ℕ) × IsDotted text name × (128 < length name)
so_far_long text kept left too_long s none long = (s.done, done_dotted text s.done left s.each s.parts none, s.long long)

-- ---- what a reader that finds only names, and refuses only by a fault of the text, gives

pub parse_only : (text : List ℕ) (r : Result (List ℕ) OidFault) → IfOk r (λ o. IsDotted text o) → IfErr r (λ f. IsTextFault text f) → (name : List ℕ) → IsDotted text name → length name ≤ 128 → r ≢ Err Memory → IsOkAnd r (λ o. o ≡ name)
parse_only text (Ok o) found fault name d few other = one_name text o name found d
parse_only text (Err Memory) found fault name d few other = absurd (other refl)
parse_only text (Err BadText) found fault name d few other = absurd (fault name d)
parse_only text (Err TooLong) found fault name d few other = absurd (let same = one_name text fault.0 name fault.1 d in omega (arith, ap length same, fault.2))
parse_only text (Err BadContent) found fault name d few other = absurd fault
parse_only text (Err NoRoom) found fault name d few other = absurd fault

pub parse_inline : (text : List ℕ) (r : Result (List ℕ) OidFault) → IfErr r (λ f. IsTextFault text f) → (name : List ℕ) → IsDotted text name → length name ≤ INLINE_NUMBERS → IsOk r
parse_inline text (Ok o) fault name d few = refl
parse_inline text (Err Memory) fault name d few = absurd (let same = one_name text fault.0 name fault.1 d in omega (arith, ap length same, fault.2))
parse_inline text (Err BadText) fault name d few = absurd (fault name d)
parse_inline text (Err TooLong) fault name d few = absurd (let same = one_name text fault.0 name fault.1 d in omega (arith, ap length same, fault.2))
parse_inline text (Err BadContent) fault name d few = absurd fault
parse_inline text (Err NoRoom) fault name d few = absurd fault

-- a list of a dotted text's numbers that is refused is a fault of the text
pub list_fault : (text numbers : List ℕ) (r : Result (List ℕ) OidFault) → IsDotted text numbers → length numbers ≤ 128 → IfErr r (λ f. IsListFault numbers f) → IfErr r (λ f. IsTextFault text f)
list_fault text numbers (Ok o) d few h = tt
list_fault text numbers (Err Memory) d few h = (numbers, d, h.0, few)
list_fault text numbers (Err BadText) d few h = absurd h
list_fault text numbers (Err TooLong) d few h = (numbers, d, h)
list_fault text numbers (Err BadContent) d few h = absurd (let some = d.some in omega arith)
list_fault text numbers (Err NoRoom) d few h = absurd h

-- ---- written from left to right

-- a dot, and a number
abbrev pub pointed : ℕ → List ℕ
pointed n = 46 ∷ decimal n

dotted_points : (n : ℕ) (ns : List ℕ) → dotted_text (n ∷ ns) ≡ decimal n ++ flat_map pointed ns
dotted_points n [] = sym (append-nil (decimal n))
dotted_points n (m ∷ ns) = ap (λ (t : List ℕ). decimal n ++ 46 ∷ t) (dotted_points m ns)

abbrev pub joined : List ℕ → List ℕ
joined [] = []
joined (n ∷ ns) = decimal n ++ flat_map pointed ns

pub joined_dotted : (name : List ℕ) → joined name ≡ dotted_text name
joined_dotted [] = refl
joined_dotted (n ∷ ns) = sym (dotted_points n ns)
