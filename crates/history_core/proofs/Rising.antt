-- Receipts with rising numbers, one more.
use Rattle.std.proofs.Common.{◌≡◌, ℕ, ◌+◌, ◌≤◌, ◌<◌, List, [], ◌∷◌, ◌++◌, length, refl, sym, ap, ◌∙◌, arith, get_or, suc}
use Rattle.std.specs.Prelude.{All, Bool, true, false, take, drop, if◌then◌else◌, nat_lt}
use Rattle.std.proofs.lemmas.List.Elements.{All-append, All-cons, All-tail, All-head}
use Rattle.std.proofs.lemmas.List.{take_more}
use Rattle.std.proofs.Math.Seq.{split_at}
use Rattle.history_core.specs.declared.entry.Entry.{Entry}
use Rattle.history_core.specs.declared.receipt.Receipt.{Receipt}
use Rattle.history_core.specs.Receipts.{Fits}
use Rattle.history_core.specs.Comparing.{Rises, IsFitting, age_of, count_older}

-- the least number above the last one
abbrev pub least_behind : ℕ → List Receipt → ℕ
least_behind n [] = n
least_behind n (r ∷ rs) = least_behind (r.number + 1) rs

pub least_behind-snoc : (n : ℕ) (rs : List Receipt) (r : Receipt)
    → least_behind n (rs ++ r ∷ []) ≡ r.number + 1
least_behind-snoc n [] r = refl
least_behind-snoc n (x ∷ rs) r = least_behind-snoc (x.number + 1) rs r

pub Rises-snoc : (n : ℕ) (rs : List Receipt) (r : Receipt) → Rises n rs
    → least_behind n rs ≤ r.number → Rises n (rs ++ r ∷ [])
Rises-snoc n [] r h k = (k, tt)
Rises-snoc n (x ∷ rs) r h k = (h.0, Rises-snoc (x.number + 1) rs r h.1 k)

pub Rises-last : (n : ℕ) (rs : List Receipt) (r : Receipt) → Rises n (rs ++ r ∷ [])
    → least_behind n rs ≤ r.number
Rises-last n [] r h = h.0
Rises-last n (x ∷ rs) r h = Rises-last (x.number + 1) rs r h.1

All-last : {X : Type 0} (P : X → Type 0) (xs : List X) (x : X) → All P (xs ++ x ∷ []) → P x
All-last P [] x h = All-head P x [] h
All-last P (y ∷ xs) x h = All-last P xs x (All-tail P y (xs ++ x ∷ []) h)

pub fitting-snoc : (n : ℕ) (es : List Entry) (rs : List Receipt) (r : Receipt)
    → IsFitting n es rs → least_behind 0 rs ≤ r.number → Fits n es r
    → IsFitting n es (rs ++ r ∷ [])
fitting-snoc n es rs r ok above fits = record {
  rises = Rises-snoc 0 rs r ok.rises above;
  fit = All-append (Fits n es) rs (r ∷ []) ok.fit
      (All-cons (Fits n es) r [] fits (λ k d lt. absurd (omega arith)));
}

pub not_rising : (n : ℕ) (es : List Entry) (rs : List Receipt) (r : Receipt)
    → (least_behind 0 rs ≤ r.number → ⊥) → IsFitting n es (rs ++ r ∷ []) → ⊥
not_rising n es rs r never ok = never (Rises-last 0 rs r ok.rises)

pub not_fitting : (n : ℕ) (es : List Entry) (rs : List Receipt) (r : Receipt)
    → (Fits n es r → ⊥) → IsFitting n es (rs ++ r ∷ []) → ⊥
not_fitting n es rs r never ok = never (All-last (Fits n es) rs r ok.fit)

pub count_older-snoc : (n : ℕ) (rs : List Receipt) (r : Receipt)
    → count_older n (rs ++ r ∷ []) ≡ count_older n rs + age_of n r
count_older-snoc n [] r = omega arith
count_older-snoc n (x ∷ rs) r = omega (arith, count_older-snoc n rs r)

age-le_by : (b : Bool) → (if b then 1 else 0) ≤ 1
age-le_by true = omega arith
age-le_by false = omega arith

pub age-le : (n : ℕ) (r : Receipt) → age_of n r ≤ 1
age-le n r = age-le_by (nat_lt r.number n)

-- the first i receipts and the next one
pub step : (rs : List Receipt) (i : ℕ) (r : Receipt) → i < length rs → r ≡ get_or rs i r
    → take (i + 1) rs ≡ take i rs ++ r ∷ []
step rs i r lt is = take_more rs i r lt ∙ ap (λ x. take i rs ++ x ∷ []) (sym is)

-- and what comes behind
pub cut_at : (rs : List Receipt) (i : ℕ) (r : Receipt) → i < length rs → r ≡ get_or rs i r
    → rs ≡ take i rs ++ r ∷ drop (suc i) rs
cut_at rs i r lt is = split_at rs i r lt ∙ ap (λ x. take i rs ++ x ∷ drop (suc i) rs) (sym is)
