-- A scan that keeps the best row so far.
use Rattle.std.proofs.Common.{◌≡◌, ℕ, zero, suc, ◌+◌, ◌<◌, Bool, true, false, ◌&&◌, List, [], ◌∷◌, length, get_or, Option, Some, None, refl, sym, ap, subst, ◌∙◌, arith, inl, inr, All, below_more, add-zero, zero-add}
use Rattle.std.specs.Cmp.{IsStrictWeakOrder}
use Rattle.std.specs.List.{list_any, position_from}
use Rattle.std.proofs.lemmas.Bool.{cases_Bool, both_ways, and_cases, and_from, and_left, true≢false}
use Rattle.std.proofs.lemmas.List.{get_or_default, get_or_read}
use Rattle.std.proofs.lemmas.List.Folds.{list_any_none, list_any-from_Any}
use Rattle.std.proofs.lemmas.Iterator.Adapters.{position_from-zero}
use Rattle.vacm_core.specs.Best.{is_unbeaten, unbeaten, takes_over}

-- the row at place b passes, nay row of the first i that passes beats it, and it beats each before it that passes
pub record IsBestAt {R : Type 0} (passes : R → Bool) (beats : R → R → Bool) (rows : List R) (i b : ℕ) : Type 0 where
  pub below : b < i
  pub itself : (e : R) → passes (get_or rows b e) ≡ true
  pub least : (k : ℕ) (d e : R) → k < i → passes (get_or rows k d) ≡ true → beats (get_or rows k d) (get_or rows b e) ≡ false
  pub first : (k : ℕ) (d e : R) → k < b → passes (get_or rows k d) ≡ true → beats (get_or rows b e) (get_or rows k d) ≡ true

-- the best of the first i rows, or none where none of them passes
abbrev pub BestSo : {R : Type 0} → (R → Bool) → (R → R → Bool) → List R → ℕ → Option ℕ → Type 0
BestSo {R} passes beats rows i None = (k : ℕ) (d : R) → k < i → passes (get_or rows k d) ≡ false
BestSo passes beats rows i (Some b) = IsBestAt passes beats rows i b

and_true : (x y : Bool) → (x && y) ≡ true → (x ≡ true) × (y ≡ true)
and_true true y e = (refl, e)
and_true false y e = absurd (true≢false (sym e))

module _ {R : Type 0} {beats : R → R → Bool} (o : IsStrictWeakOrder beats) where
  not_itself : (x : R) → beats x x ≡ false
  not_itself x = elim (cases_Bool (beats x x)) [ inl h ↦ o.one_way x x h | inr h ↦ h ]

  over : (x y z : R) → beats x z ≡ true → beats y z ≡ false → beats x y ≡ true
  over x y z a b = elim (cases_Bool (beats x y)) [ inl h ↦ h | inr h ↦ absurd (both_ways (beats x z) (o.chain x y z h b) a) ]

  module _ (rows : List R) (i : ℕ) (row : R) (inside : i < length rows) (is : row ≡ get_or rows i row) (passes : R → Bool) where
    at : (d : R) → row ≡ get_or rows i d
    at d = get_or_read rows i row inside is d

    pub skips : (best : Option ℕ) → (passes row && takes_over beats rows best row) ≡ false → BestSo passes beats rows i best → BestSo passes beats rows (i + 1) best
    skips None e h =
        let nay : passes row ≡ false = elim (and_cases (passes row) true e) [ inl p ↦ p | inr q ↦ absurd (true≢false q) ] in
        λ k d. below_more (λ j. passes (get_or rows j d) ≡ false) i (λ j. h j d) (ap passes (sym (at d)) ∙ nay) k
    skips (Some b) e h =
        let least = h.least in
        let below = h.below in
        let last : (d e : R) → passes (get_or rows i d) ≡ true → beats (get_or rows i d) (get_or rows b e) ≡ false = λ d f p.
        elim (and_cases (passes row) (beats row (get_or rows b row)) e) [
          | inl nay ↦ absurd (both_ways (passes row) nay (ap passes (at d) ∙ p))
          | inr nay ↦ (λ j. beats (sym (at d) j) (get_or_default rows b f row (omega arith) j)) ∙ nay
        ] in
        record {
          below = omega arith;
          itself = h.itself;
          least = λ k d e. below_more (λ j. passes (get_or rows j d) ≡ true → beats (get_or rows j d) (get_or rows b e) ≡ false) i (λ j. least j d e) (last d e) k;
          first = h.first;
        }

    pub takes : (best : Option ℕ) → (passes row && takes_over beats rows best row) ≡ true → BestSo passes beats rows i best → BestSo passes beats rows (i + 1) (Some i)
    takes None e h = record {
      below = omega arith;
      itself = λ d. ap passes (sym (at d)) ∙ (and_true (passes row) true e).0;
      least = λ k d f. below_more (λ j. passes (get_or rows j d) ≡ true → beats (get_or rows j d) (get_or rows i f) ≡ false) i
          (λ j lt p. absurd (both_ways (passes (get_or rows j d)) (h j d lt) p))
          (λ p. (λ j. beats (sym (at d) j) (sym (at f) j)) ∙ not_itself row) k;
      first = λ k d f lt p. absurd (both_ways (passes (get_or rows k d)) (h k d lt) p);
    }
    takes (Some b) e h =
        let least = h.least in
        let parts = and_true (passes row) (beats row (get_or rows b row)) e in
        let wins : (k : ℕ) (d f : R) → k < i → passes (get_or rows k d) ≡ true → beats (get_or rows i f) (get_or rows k d) ≡ true = λ k d f lt p.
        (λ j. beats (sym (at f) j) (get_or rows k d)) ∙ over row (get_or rows k d) (get_or rows b row) parts.1 (least k d row lt p) in
        record {
          below = omega arith;
          itself = λ d. ap passes (sym (at d)) ∙ parts.0;
          least = λ k d f. below_more (λ j. passes (get_or rows j d) ≡ true → beats (get_or rows j d) (get_or rows i f) ≡ false) i
              (λ j lt p. o.one_way _ _ (wins j d f lt p))
              (λ p. (λ j. beats (sym (at d) j) (sym (at f) j)) ∙ not_itself row) k;
          first = wins;
        }

-- ---- the place where a test passes first

never : {R : Type 0} (p : R → Bool) (xs : List R) (j : ℕ) → All (λ x. p x ≡ false) xs → position_from p j xs ≡ None
never p [] j nay = refl
never p (x ∷ xs) j nay = rw (nay 0 x (omega arith)) (never p xs (j + 1) (λ k d h. nay (suc k) d (omega arith)))

first_at : {R : Type 0} (p : R → Bool) (xs : List R) (j b : ℕ) → b < length xs → ((d : R) → p (get_or xs b d) ≡ true) → ((k : ℕ) (d : R) → k < b → p (get_or xs k d) ≡ false) → position_from p j xs ≡ Some (j + b)
first_at p [] j b h aye nay = absurd (omega arith)
first_at p (x ∷ xs) j zero h aye nay = rw (aye x) (ap (λ (n : ℕ). Some n) (sym (add-zero j)))
first_at p (x ∷ xs) j (suc b) h aye nay =
    let more : j + 1 + b ≡ j + suc b = omega arith in
    rw (nay 0 x (omega arith)) (first_at p xs (j + 1) b (omega arith) aye (λ k d lt. nay (suc k) d (omega arith)) ∙ ap (λ (n : ℕ). Some n) more)

module _ {R : Type 0} (passes : R → Bool) (beats : R → R → Bool) (rows : List R) where
  pub is_best : (b : ℕ) → IsBestAt passes beats rows (length rows) b → (e : R) → is_unbeaten passes beats rows (get_or rows b e) ≡ true
  is_best b h e =
      let none : list_any (λ other. passes other && beats other (get_or rows b e)) rows ≡ false =
      list_any_none (λ other. passes other && beats other (get_or rows b e)) rows (λ k d lt.
      elim (cases_Bool (passes (get_or rows k d))) [
        | inl p ↦ rw p (h.least k d e lt p)
        | inr p ↦ rw p refl
      ]) in
      rw (h.itself e, none) refl

  is_beaten : (b : ℕ) → IsBestAt passes beats rows (length rows) b → (k : ℕ) (d : R) → k < b → is_unbeaten passes beats rows (get_or rows k d) ≡ false
  is_beaten b h k d lt =
      elim (cases_Bool (passes (get_or rows k d))) [
        | inr p ↦ rw p refl
        | inl p ↦
            let below = h.below in
            let one : list_any (λ other. passes other && beats other (get_or rows k d)) rows ≡ true =
            list_any-from_Any (λ other. passes other && beats other (get_or rows k d)) rows
            (b, get_or rows b d, below, get_or_default rows b (get_or rows b d) d below, and_from _ _ (h.itself d) (h.first k d d lt p)) in
            rw (p, one) refl
      ]

  -- the best of all rows is the one that none beats
  pub found : (i : ℕ) (best : Option ℕ) → i ≡ length rows → BestSo passes beats rows i best → best ≡ unbeaten passes beats rows
  unfolding unbeaten
  found i None e h =
      let all : (k : ℕ) (d : R) → k < length rows → passes (get_or rows k d) ≡ false = λ k d lt. h k d (omega arith) in
      sym (position_from-zero (is_unbeaten passes beats rows) rows ∙ never (is_unbeaten passes beats rows) rows 0 (λ k d lt. and_left _ _ (all k d lt)))
  found i (Some b) e h =
      let whole : IsBestAt passes beats rows (length rows) b = subst (λ (n : ℕ). IsBestAt passes beats rows n b) e h in
      let below = whole.below in
      sym (position_from-zero (is_unbeaten passes beats rows) rows ∙ first_at (is_unbeaten passes beats rows) rows 0 b below (is_best b whole) (is_beaten b whole) ∙ ap (λ (n : ℕ). Some n) (zero-add b))

-- what is kept stands among the rows
pub kept : (best : Option ℕ) (n len : ℕ) → best ≡ Some n → n < len → (x : ℕ) → best ≡ Some x → x < len
kept best n len e h x f = let same : n ≡ x = cc in omega arith
