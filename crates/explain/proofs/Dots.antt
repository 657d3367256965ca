-- A word and the dot that it may begin with.
use Rattle.std.proofs.Common.{◌≡◌, ◌≢◌, ◌==◌, ℕ, Bool, true, false, List, [], ◌∷◌, Option, Some, None, option_map, refl, sym, ap, arith}
use Rattle.std.specs.Prelude.{MatchOption}
use Rattle.std.specs.Borrow.{Bor}
use Rattle.std.proofs.lemmas.Bool.Decides.{nat_tests}
use Rattle.explain.specs.Questions.{behind_dot}

-- the clause of `strip_prefix` at a dot
pub dot_stripped : (word : List ℕ) (r : Option (Bor (List ℕ)))
    → MatchOption r ((rest : List ℕ) → word ≢ 46 ∷ rest) (λ x. word ≡ 46 ∷ x.now) → option_map (λ rest. rest.now) r ≡ behind_dot word
dot_stripped [] None is = refl
dot_stripped [] (Some x) is = cc
dot_stripped (c ∷ rest) None is = go (c == 46) refl
  where
    go : (t : Bool) → (c == 46) ≡ t → None ≡ behind_dot (c ∷ rest)
    go true e = absurd (is rest (ap (λ n. n ∷ rest) (grind (arith, nat_tests))))
    go false e = rw e
dot_stripped (c ∷ rest) (Some x) is = sym (ap behind_dot is)
