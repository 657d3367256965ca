-- A map with one key more, of a list of keys that are entered in turn.
use Rattle.std.proofs.Common.{◌≡◌, ◌<◌, ◌+◌, ℕ, zero, suc, Bool, true, false, cond, List, [], ◌∷◌, length, Option, Some, IsSome, BTreeMap, Ordering, slice_index_or, inl, inr, refl, sym, ap, subst, ◌∙◌, arith}
use Rattle.std.proofs.lemmas.Bool.{cases_lt}
use Rattle.std.specs.BTreeMap.{get, is_at, Updates}

-- what was there is there still, or the new one is
some_kept : {X : Type 0} (b : Bool) (v : X) (o : Option X) → IsSome o → IsSome (cond b (Some v) o)
some_kept true v o is = refl
some_kept false v o is = is

-- within a list, what else is read elsewhere does not count
any_default : {X : Type 0} (xs : List X) (i : ℕ) (d e : X) → i < length xs → slice_index_or xs i d ≡ slice_index_or xs i e
any_default [] i d e lt = absurd (omega (arith, lt))
any_default (x ∷ xs) zero d e lt = refl
any_default (x ∷ xs) (suc i) d e lt = any_default xs i d e (omega (arith, lt))

-- each key so far is there, the new one too
pub entered : {K X : Type 0} (cmp : K → K → Ordering) (m n : BTreeMap K X) (keys : List K) (i k : ℕ) (d e : K) (v : X)
    → Updates cmp m n (slice_index_or keys i e) (Some v) → i < length keys
    → ((j : ℕ) (f : K) → j < i → IsSome (get cmp m (slice_index_or keys j f)))
    → k < i + 1 → IsSome (get cmp n (slice_index_or keys k d))
entered {K} {X} cmp m n keys i k d e v u within before lt =
    elim (cases_lt k i) [
      | inl below ↦
          subst (λ (o : Option X). IsSome o) (sym (u.0 (slice_index_or keys k d)))
          (some_kept (is_at (cmp (slice_index_or keys i e)) (slice_index_or keys k d)) v (get cmp m (slice_index_or keys k d)) (before k d below))
      | inr not ↦
          let here : i ≡ k = omega arith in
          let same : slice_index_or keys i e ≡ slice_index_or keys k d = any_default keys i e d within ∙ ap (λ (j : ℕ). slice_index_or keys j d) here in
          subst (λ (q : K). IsSome (get cmp n q)) same
          (subst (λ (o : Option X). IsSome o) (sym u.1) refl)
    ]
