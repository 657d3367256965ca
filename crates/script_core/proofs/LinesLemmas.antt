-- How lines are cut as a text grows, and that they are the text's only lines.
use Rattle.std.proofs.Common.{◌≡◌, ◌≢◌, ◌⊎◌, inl, inr, ℕ, ◌<◌, List, [], ◌∷◌, ◌++◌, length, All, Contains, eqb, refl, ap, ◌∙◌, ne_eqb, eq-eqb, append_assoc, sym, arith}
use Rattle.std.proofs.lemmas.Bool.{cases_Bool, eqb-true}
use Rattle.std.proofs.lemmas.List.Elements.{All-head, All-tail, All-cons, All-nil, All-append, Contains-append_right}
use Rattle.std.specs.List.{flat_map}
use Rattle.script_core.specs.Lines.{onto_first, lines_of, first_line, with_end, HasNoEnd, IsOpen, AreLines}

-- a line that ends is the first line
pub lines_of-ended : (line rest : List ℕ) → HasNoEnd line → lines_of (line ++ (10 ∷ rest)) ≡ line ∷ lines_of rest
lines_of-ended [] rest h = refl
lines_of-ended (b ∷ bs) rest h =
    rw (ne_eqb b 10 (All-head (λ x. x ≢ 10) b bs h), lines_of-ended bs rest (All-tail (λ x. x ≢ 10) b bs h))

-- what has no end yet is one line
lines_of-more : (b : ℕ) (bs : List ℕ) → HasNoEnd (b ∷ bs) → lines_of (b ∷ bs) ≡ (b ∷ bs) ∷ []
lines_of-more b [] h = rw (ne_eqb b 10 (All-head (λ x. x ≢ 10) b [] h))
lines_of-more b (c ∷ cs) h =
    rw (ne_eqb b 10 (All-head (λ x. x ≢ 10) b (c ∷ cs) h), lines_of-more c cs (All-tail (λ x. x ≢ 10) b (c ∷ cs) h))

pub lines_of-last : (line : List ℕ) → HasNoEnd line → 0 < length line → lines_of line ≡ line ∷ []
lines_of-last [] h some = absurd (omega arith)
lines_of-last (b ∷ bs) h some = lines_of-more b bs h

-- lines that have ended are the first lines
pub lines_of-behind : (ended : List (List ℕ)) (left : List ℕ) → All HasNoEnd ended → lines_of (flat_map with_end ended ++ left) ≡ ended ++ lines_of left
lines_of-behind [] left h = refl
lines_of-behind (l ∷ ls) left h =
    let rest = lines_of-behind ls left (All-tail HasNoEnd l ls h) in
    let here = lines_of-ended l (flat_map with_end ls ++ left) (All-head HasNoEnd l ls h) in
    rw (append_assoc, append_assoc) (here ∙ ap (λ x. l ∷ x) rest)

-- ---- the first line

pub first_line-ended : (line rest : List ℕ) → HasNoEnd line → first_line (line ++ (10 ∷ rest)) ≡ line
first_line-ended [] rest h = refl
first_line-ended (b ∷ bs) rest h =
    rw (ne_eqb b 10 (All-head (λ x. x ≢ 10) b bs h), first_line-ended bs rest (All-tail (λ x. x ≢ 10) b bs h))

pub first_line-last : (line : List ℕ) → HasNoEnd line → first_line line ≡ line
first_line-last [] h = refl
first_line-last (b ∷ bs) h =
    rw (ne_eqb b 10 (All-head (λ x. x ≢ 10) b bs h), first_line-last bs (All-tail (λ x. x ≢ 10) b bs h))

-- a text whose first octet ends no line
first_line-octet : (b : ℕ) (rest : List ℕ) → b ≢ 10 → 0 < length (first_line (b ∷ rest))
first_line-octet b rest other = rw (ne_eqb b 10 other) (omega arith)

-- a line has octets where one that ends no line stands behind its part
pub first_line-some : (part : List ℕ) (octet : ℕ) (rest : List ℕ) → HasNoEnd part → octet ≢ 10
    → 0 < length (first_line (part ++ (octet ∷ rest)))
first_line-some [] octet rest h other = first_line-octet octet rest other
first_line-some (b ∷ bs) octet rest h other =
    first_line-octet b (bs ++ (octet ∷ rest)) (All-head (λ x. x ≢ 10) b bs h)

-- what is read behind the part of a line has its end where the end is its first octet
pub contains_end : (part more : List ℕ) (octet : ℕ) (rest : List ℕ) → more ≡ octet ∷ rest → octet ≡ 10 → Contains (part ++ more) 10
contains_end part more octet rest begins ended =
    Contains-append_right part more 10 (rw (begins, ended) (0, omega arith, refl))

-- two parts of a line
pub HasNoEnd-append : (line part : List ℕ) → HasNoEnd line → HasNoEnd part → HasNoEnd (line ++ part)
HasNoEnd-append line part h k = All-append (λ x. x ≢ 10) line part h k

pub first_line-parts : (line part rest : List ℕ) → HasNoEnd line → HasNoEnd part → first_line (line ++ (part ++ (10 ∷ rest))) ≡ line ++ part
first_line-parts line part rest h k =
    ap first_line (sym (append_assoc line part (10 ∷ rest))) ∙ first_line-ended (line ++ part) rest (HasNoEnd-append line part h k)

-- ---- the only lines

-- lines that are written with their ends are read back
lines_of-joined : (lines : List (List ℕ)) → All HasNoEnd lines → lines_of (flat_map with_end lines) ≡ lines
lines_of-joined [] h = refl
lines_of-joined (l ∷ ls) h =
    let rest = lines_of-joined ls (All-tail HasNoEnd l ls h) in
    let here = lines_of-ended l (flat_map with_end ls) (All-head HasNoEnd l ls h) in
    rw append_assoc (here ∙ ap (λ x. l ∷ x) rest)

-- one end more after an octet that is none makes no further line
lines_of-closed : (front : List ℕ) (b : ℕ) → b ≢ 10 → lines_of (with_end (front ++ (b ∷ []))) ≡ lines_of (front ++ (b ∷ []))
lines_of-closed [] b other = rw (ne_eqb b 10 other)
lines_of-closed (c ∷ cs) b other = rw (lines_of-closed cs b other)

pub lines_of-only : (text : List ℕ) (lines : List (List ℕ)) → AreLines text lines → lines ≡ lines_of text
lines_of-only text lines h =
    elim h.joined [
      | inl e ↦ sym (lines_of-joined lines h.no_end) ∙ ap lines_of e
      | inr ended ↦
          let o = ended.0 in
          let closed : lines_of (with_end text) ≡ lines_of text = rw o.whole (lines_of-closed o.front o.octet o.other) in
          sym (lines_of-joined lines h.no_end) ∙ ap lines_of ended.1 ∙ closed
    ]

-- ---- the lines are lines

-- an octet before an open text
IsOpen-more : (b : ℕ) (text : List ℕ) → IsOpen text → IsOpen (b ∷ text)
IsOpen-more b text h = record { front = b ∷ h.front; octet = h.octet; whole = ap (λ x. b ∷ x) h.whole; other = h.other }

-- an empty line before lines
AreLines-end : (text : List ℕ) (lines : List (List ℕ)) → AreLines text lines → AreLines (10 ∷ text) ([] ∷ lines)
AreLines-end text lines h = record {
  no_end = All-cons HasNoEnd [] lines (All-nil (λ x. x ≢ 10)) h.no_end;
  joined = elim h.joined as (λ _. (flat_map with_end ([] ∷ lines) ≡ 10 ∷ text) ⊎ (IsOpen (10 ∷ text) × (flat_map with_end ([] ∷ lines) ≡ with_end (10 ∷ text)))) [
    | inl e ↦ inl (ap (λ x. 10 ∷ x) e)
    | inr ended ↦ inr (IsOpen-more 10 text ended.0, ap (λ x. 10 ∷ x) ended.1)
  ];
}

-- a text with an end is not empty
with_end-some : (text : List ℕ) → [] ≡ with_end text → text ≡ []
with_end-some [] e = refl
with_end-some (b ∷ bs) e = cc e

-- the text of no lines is empty
AreLines-none : (text : List ℕ) → AreLines text [] → text ≡ []
AreLines-none text h = elim h.joined [ inl e ↦ sym e | inr ended ↦ with_end-some text ended.1 ]

-- an octet at the front of the first line
AreLines-onto : (b : ℕ) (text : List ℕ) (lines : List (List ℕ)) → b ≢ 10 → AreLines text lines → AreLines (b ∷ text) (onto_first b lines)
AreLines-onto b text [] other h =
    let none = AreLines-none text h in
    record {
      no_end = All-cons HasNoEnd (b ∷ []) [] (All-cons (λ x. x ≢ 10) b [] other (All-nil (λ x. x ≢ 10))) (All-nil HasNoEnd);
      joined = inr (record { front = []; octet = b; whole = ap (λ x. b ∷ x) none; other = other }, ap (λ x. b ∷ with_end x) (sym none));
    }
AreLines-onto b text (l ∷ ls) other h = record {
  no_end = All-cons HasNoEnd (b ∷ l) ls (All-cons (λ x. x ≢ 10) b l other (All-head HasNoEnd l ls h.no_end)) (All-tail HasNoEnd l ls h.no_end);
  joined = elim h.joined as (λ _. (flat_map with_end ((b ∷ l) ∷ ls) ≡ b ∷ text) ⊎ (IsOpen (b ∷ text) × (flat_map with_end ((b ∷ l) ∷ ls) ≡ with_end (b ∷ text)))) [
    | inl e ↦ inl (ap (λ x. b ∷ x) e)
    | inr ended ↦ inr (IsOpen-more b text ended.0, ap (λ x. b ∷ x) ended.1)
  ];
}

pub AreLines-lines_of : (text : List ℕ) → AreLines text (lines_of text)
AreLines-lines_of [] = record { no_end = All-nil HasNoEnd; joined = inl refl }
AreLines-lines_of (b ∷ bs) =
    elim (cases_Bool (eqb b 10)) [
      | inl same ↦ rw (same, eqb-true b 10 same) (AreLines-end bs (lines_of bs) (AreLines-lines_of bs))
      | inr other ↦ rw other (AreLines-onto b bs (lines_of bs) (λ e. cc (sym other ∙ eq-eqb b 10 e)) (AreLines-lines_of bs))
    ]
