-- The rows that are left by the numbers of a name, one number after the other.
use Rattle.std.proofs.Common.{inl, inr, ◌≡◌, ℕ, ◌<◌, ◌≤◌, ◌+◌, ◌/◌, ◌%◌, true, List, [], ◌∷◌, ◌++◌, length, take, get_or, replicate, Some, zero, suc, refl, sym, ap, subst, ◌∙◌, arith}
use Rattle.std.specs.List.{slice_get, slice_index, slice_index_or}
use Rattle.std.specs.Int.{bit_at}
use Rattle.std.proofs.lemmas.Bool.{cases_lt}
use Rattle.std.proofs.lemmas.Option.{slice_get_cases}
use Rattle.std.proofs.lemmas.List.{append_assoc, length-append, append-nil, length-take-le, take-append-le, take-take, take_all, get_or-take, get_or_append_left, get_or-replicate}
use Rattle.std.proofs.Math.Seq.{take-length, get_or-append_seam}
use Rattle.vacm_core.specs.Bitmaps.{IsSound, IsIn, is_allowed, only_of}
use Rattle.vacm_core.specs.Candidates.{AreLeftBy, AreFollowed}
use Rattle.vacm_core.specs.Families.{agrees_from}
use Rattle.vacm_core.specs.declared.bitmaps.Block.{Block}
use Rattle.vacm_core.specs.declared.candidates.Level.{Level}
use Rattle.vacm_core.specs.declared.tables.FamilyRow.{FamilyRow}
use Rattle.vacm_core.proofs.KeptBits.{allowed, full}

-- each row that was left, and that may have this number at the place, still is
abbrev pub IsNextLevel : List Block → ℕ → ℕ → List ℕ → List ℕ → Type 0
IsNextLevel blocks place number words next =
    (b bit : ℕ) (block : Block) (row : FamilyRow) → b < 32 → bit < 64 → slice_get blocks b ≡ Some block → IsSound block bit row
    → is_allowed (only_of row place) number ≡ true → bit_at (slice_index words b) bit ≡ 1 → bit_at (slice_index next b) bit ≡ 1

-- full words leave each row
pub all_left : (blocks : List Block) (front words : List ℕ) → ((b : ℕ) → b < 32 → slice_index words b ≡ 18446744073709551615) → AreLeftBy blocks front words
all_left blocks front words full_words b bit block row rest b_small small at sound has = ap (λ (word : ℕ). bit_at word bit) (full_words b b_small) ∙ full bit small

-- by one number more
pub next_left : (blocks : List Block) (front words next : List ℕ) (number : ℕ) → AreLeftBy blocks front words → IsNextLevel blocks (length front) number words next
    → AreLeftBy blocks (front ++ number ∷ []) next
next_left blocks front words next number left on b bit block row rest b_small small at sound has =
    let name = front ++ (number ∷ rest) in
    let whole : agrees_from 0 row.mask row.subtree name ≡ true = subst (λ (l : List ℕ). agrees_from 0 row.mask row.subtree l ≡ true) (append_assoc front (number ∷ []) rest) has in
    let long : length front < length name = omega (arith, length-append front (number ∷ rest)) in
    on b bit block row b_small small at sound (allowed row name (length front) number whole long (get_or-append_seam front number rest 0))
    (left b bit block row (number ∷ rest) b_small small at sound whole)

none_left : (blocks : List Block) (level : Level) → AreLeftBy blocks [] level.rows → (k : ℕ) (d : Level) → k ≤ 0 → AreLeftBy blocks (take k []) (slice_index_or (level ∷ []) k d).rows
none_left blocks level all zero d le = all
none_left blocks level all (suc k) d le = absurd (omega (arith, le))

-- no number, and one level of full words
pub followed_none : (blocks : List Block) {level : Level} → level.rows ≡ replicate 32 18446744073709551615 → AreFollowed blocks [] (level ∷ [])
followed_none blocks {level} are =
    let all = all_left blocks [] level.rows (λ b small. ap (λ (l : List ℕ). slice_index l b) are ∙ get_or-replicate 32 b 18446744073709551615 0 small) in
    record {
      long = refl;
      left = none_left blocks level all;
    }

-- a number more, and its level
pub followed_more : (blocks : List Block) (numbers : List ℕ) (levels : List Level) (number : ℕ) (next : Level) → AreFollowed blocks numbers levels
    → AreLeftBy blocks (numbers ++ number ∷ []) next.rows → AreFollowed blocks (numbers ++ number ∷ []) (levels ++ next ∷ [])
followed_more blocks numbers levels number next are left =
    let long = are.long in
    record {
      long = length-append levels (next ∷ []) ∙ ap (λ (n : ℕ). n + 1) long ∙ ap (λ (n : ℕ). n + 1) (sym (length-append numbers (number ∷ [])));
      left = λ k d le. elim (cases_lt k (length numbers + 1)) [
        | inl lt ↦
            let front = take-append-le k numbers (number ∷ []) (omega (arith, lt)) in
            let level = get_or_append_left levels (next ∷ []) d k (omega (arith, lt, long)) in
            subst (λ (l : List ℕ). AreLeftBy blocks l (slice_index_or (levels ++ next ∷ []) k d).rows) (sym front)
            (subst (λ (m : Level). AreLeftBy blocks (take k numbers) m.rows) (sym level) (are.left k d (omega (arith, lt))))
        | inr ge ↦
            let whole = length-append numbers (number ∷ []) in
            let front = take_all k (numbers ++ number ∷ []) (omega (arith, ge, whole)) in
            let here : k ≡ length levels = omega (arith, ge, le, whole, long) in
            let level = ap (λ (n : ℕ). get_or (levels ++ next ∷ []) n d) here ∙ get_or-append_seam levels next [] d in
            subst (λ (l : List ℕ). AreLeftBy blocks l (slice_index_or (levels ++ next ∷ []) k d).rows) (sym front)
            (subst (λ (m : Level). AreLeftBy blocks (numbers ++ number ∷ []) m.rows) (sym level) left)
      ];
    }

-- a number more, and what it leaves of the last level
pub followed_next : (blocks : List Block) (numbers : List ℕ) (levels : List Level) (number : ℕ) (level next : Level) → AreFollowed blocks numbers levels
    → level ≡ slice_index_or levels (length numbers) level → IsNextLevel blocks (length numbers) number level.rows next.rows → AreFollowed blocks (numbers ++ number ∷ []) (levels ++ next ∷ [])
followed_next blocks numbers levels number level next are is on =
    let last = subst (λ (m : Level). AreLeftBy blocks (take (length numbers) numbers) m.rows) (sym is) (are.left (length numbers) level (omega arith)) in
    let left = subst (λ (l : List ℕ). AreLeftBy blocks l level.rows) (take-length numbers) last in
    followed_more blocks numbers levels number next are (next_left blocks numbers level.rows next.rows number left on)

-- fewer numbers, and their levels
pub followed_less : (blocks : List Block) (numbers : List ℕ) (levels : List Level) (n : ℕ) → n ≤ length numbers → AreFollowed blocks numbers levels
    → AreFollowed blocks (take n numbers) (take (n + 1) levels)
followed_less blocks numbers levels n le are =
    let long = are.long in
    let short = length-take-le n numbers le in
    record {
      long = length-take-le (n + 1) levels (omega (arith, le, long)) ∙ ap (λ (m : ℕ). m + 1) (sym short);
      left = λ k d small.
          let front = take-take k n numbers (omega (arith, small, short)) in
          let level = get_or-take (n + 1) levels k d (omega (arith, small, short)) in
          subst (λ (l : List ℕ). AreLeftBy blocks l (slice_index_or (take (n + 1) levels) k d).rows) (sym front)
          (subst (λ (m : Level). AreLeftBy blocks (take k numbers) m.rows) (sym level) (are.left k d (omega (arith, small, short, le))));
    }

-- a row that may have the name is left
pub left_at : (blocks : List Block) (numbers : List ℕ) (levels : List Level) (d : Level) (block rank : ℕ) (row : FamilyRow) → AreFollowed blocks numbers levels → block < 32
    → block < length blocks → rank / 64 ≡ block → IsIn blocks rank row → agrees_from 0 row.mask row.subtree numbers ≡ true
    → bit_at (slice_index (slice_index_or levels (length numbers) d).rows block) (rank % 64) ≡ 1
left_at blocks numbers levels d block rank row are small within is inside has =
    elim (slice_get_cases blocks block).1 [
      | inl at ↦
          let here = ap (λ (k : ℕ). slice_get blocks k) is ∙ at.2 in
          let whole : agrees_from 0 row.mask row.subtree (take (length numbers) numbers ++ []) ≡ true =
          subst (λ (l : List ℕ). agrees_from 0 row.mask row.subtree l ≡ true) (sym (append-nil (take (length numbers) numbers) ∙ take-length numbers)) has in
          are.left (length numbers) d (omega arith) block (rank % 64) at.0 row [] small (omega arith) at.2 (inside at.0 here) whole
      | inr past ↦ absurd (omega (arith, within, past.0))
    ]
