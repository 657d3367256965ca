-- Whether a subtree agrees with a name, part by part.
use Rattle.std.proofs.Common.{◌≡◌, ◌==◌, ◌||◌, not, Bool, [], arith, false, zero, add-zero, eq-eqb, ℕ, suc, Option, Some, None, MatchOption, ◌≢◌, ◌+◌, ◌<◌, ◌≤◌, true, ◌&&◌, List, ◌∷◌, ◌++◌, length, get_or, drop, drop-cons, add-one, refl, sym, ap, ◌∙◌, inl, inr}
use Rattle.std.proofs.lemmas.List.{drop_all}
use Rattle.std.proofs.lemmas.Option.{slice_get-get_or, slice_get_past}
use Rattle.std.proofs.lemmas.Bool.{cases_lt, and_from, eqb-true}
use Rattle.std.specs.Option.{is_some}
use Rattle.vacm_core.specs.Families.{agrees_at, agrees_with, agrees_from, mask_bit}

one_part : (mask : List ℕ) (k s : ℕ) (rest name : List ℕ) → agrees_from k mask (s ∷ rest) (drop k name) ≡ (agrees_at mask k s name && agrees_from (k + 1) mask rest (drop (k + 1) name))
one_part mask k s rest name =
    elim (cases_lt k (length name)) [
      | inl h ↦ rw (add-one k, drop-cons name k 0, slice_get-get_or name k 0 h) (ap (λ (j : ℕ). agrees_with mask k s (Some (get_or name k 0)) && agrees_from j mask rest (drop (suc k) name)) (add-one k))
      | inr h ↦ rw (drop_all k name h, slice_get_past name k h) refl
    ]

-- the k-th part, and those after it
pub agrees_step : (mask : List ℕ) (k : ℕ) (subtree name : List ℕ) → k < length subtree → agrees_from k mask (drop k subtree) (drop k name) ≡ (agrees_at mask k (get_or subtree k 0) name && agrees_from (k + 1) mask (drop (k + 1) subtree) (drop (k + 1) name))
agrees_step mask k subtree name h =
    ap (λ (l : List ℕ). agrees_from k mask l (drop k name)) (drop-cons subtree k 0 h ∙ ap (λ (j : ℕ). get_or subtree k 0 ∷ drop j subtree) (sym (add-one k)))
    ∙ one_part mask k (get_or subtree k 0) (drop (k + 1) subtree) name

pub agrees_end : (mask : List ℕ) (k : ℕ) (subtree name : List ℕ) → length subtree ≤ k → agrees_from k mask (drop k subtree) (drop k name) ≡ true
agrees_end mask k subtree name h = rw (drop_all k subtree h) refl

pub and_true : (x y : Bool) → (x && y) ≡ true → (x ≡ true) × (y ≡ true)
and_true true y e = (refl, e)
and_true false y e = absurd cc

pub part_found : (bit same : Bool) → (not bit || same) ≡ true → bit ≡ true → same ≡ true
part_found true same e h = e
part_found false same e h = absurd cc

part_only : (bit same : Bool) → (bit ≡ true → same ≡ true) → (not bit || same) ≡ true
part_only true same h = h refl
part_only false same h = refl

-- the same at a place of longer lists
found_at : (k : ℕ) (mask : List ℕ) (s n : ℕ) (subtree name : List ℕ) → (not (mask_bit mask k) || s == n) ≡ true
    → ((j : ℕ) → j < length subtree → mask_bit mask (k + 1 + j) ≡ true → get_or name j 0 ≡ get_or subtree j 0)
    → (j : ℕ) → j < length (s ∷ subtree) → mask_bit mask (k + j) ≡ true → get_or (n ∷ name) j 0 ≡ get_or (s ∷ subtree) j 0
found_at k mask s n subtree name first others zero h b = sym (eqb-true s n (part_found (mask_bit mask k) (s == n) first (ap (mask_bit mask) (sym (add-zero k)) ∙ b)))
found_at k mask s n subtree name first others (suc j) h b =
    let shift : k + 1 + j ≡ k + suc j = omega arith in
    others j (omega arith) (ap (mask_bit mask) shift ∙ b)

-- what agrees is at least as long, and equal wherever the bit is 1
pub agrees_found : (k : ℕ) (mask subtree name : List ℕ) → agrees_from k mask subtree name ≡ true
    → (length subtree ≤ length name) × ((j : ℕ) → j < length subtree → mask_bit mask (k + j) ≡ true → get_or name j 0 ≡ get_or subtree j 0)
agrees_found k mask [] name e = (omega arith, λ j h b. absurd (omega arith))
agrees_found k mask (s ∷ subtree) [] e = absurd cc
agrees_found k mask (s ∷ subtree) (n ∷ name) e =
    let parts = and_true (not (mask_bit mask k) || s == n) (agrees_from (k + 1) mask subtree name) e in
    let rest = agrees_found (k + 1) mask subtree name parts.1 in
    let long = rest.0 in
    (omega arith, λ j h b. found_at k mask s n subtree name parts.0 rest.1 j h b)

pub agrees_only : (k : ℕ) (mask subtree name : List ℕ) → length subtree ≤ length name
    → ((j : ℕ) → j < length subtree → mask_bit mask (k + j) ≡ true → get_or name j 0 ≡ get_or subtree j 0) → agrees_from k mask subtree name ≡ true
agrees_only k mask [] name long same = refl
agrees_only k mask (s ∷ subtree) [] long same = absurd (omega arith)
agrees_only k mask (s ∷ subtree) (n ∷ name) long same =
    and_from _ _ (part_only (mask_bit mask k) (s == n) (λ b. eq-eqb s n (sym (same 0 (omega arith) (ap (mask_bit mask) (add-zero k) ∙ b)))))
    (agrees_only (k + 1) mask subtree name (omega arith) (λ j h b.
    let shift : k + suc j ≡ k + 1 + j = omega arith in
    same (suc j) (omega arith) (ap (mask_bit mask) shift ∙ b)))

-- a name that begins with the subtree agrees with it, whatever the mask
pub agrees_begun : (k : ℕ) (mask subtree rest : List ℕ) → agrees_from k mask subtree (subtree ++ rest) ≡ true
agrees_begun k mask [] rest = refl
agrees_begun k mask (s ∷ subtree) rest = and_from _ _ (part_only (mask_bit mask k) (s == s) (λ b. eq-eqb s s refl)) (agrees_begun (k + 1) mask subtree rest)

-- the same of a name of which the rest behind the subtree was found
pub agrees_found_begun : {R : Type 0} (found : Option R) (numbers : R → List ℕ) (mask subtree name : List ℕ)
    → MatchOption found ((rest : List ℕ) → name ≢ subtree ++ rest) (λ rest. name ≡ subtree ++ numbers rest)
    → is_some found ≡ true → agrees_from 0 mask subtree name ≡ true
agrees_found_begun None numbers mask subtree name begun some = absurd cc
agrees_found_begun (Some rest) numbers mask subtree name begun some = rw begun (agrees_begun 0 mask subtree (numbers rest))
