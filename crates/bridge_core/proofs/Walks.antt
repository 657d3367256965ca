-- Walking the ports in ascending order.
use Rattle.std.proofs.Common.{◌≡◌, ℕ, ◌+◌, zero, suc, add-one, Bool, true, false, List, [], ◌∷◌, ◌++◌, filter, refl, sym, ap, ◌∙◌, arith}
use Rattle.std.specs.Prelude.{if◌then◌else◌}
use Rattle.std.specs.List.{range_with_len}
use Rattle.std.proofs.lemmas.List.{append-nil}
use Rattle.std.proofs.lemmas.List.Elements.{filter-append}
use Rattle.bridge_core.specs.Forwarding.{ports_where}

range_last : (a n j : ℕ) → a + n ≡ j → range_with_len a (suc n) ≡ range_with_len a n ++ j ∷ []
range_last a zero j e = let h : a ≡ j = omega arith in rw h
range_last a (suc n) j e = ap (λ (xs : List ℕ). a ∷ xs) (range_last (a + 1) n j (omega arith))

filter_one : (test : ℕ → Bool) (xs : List ℕ) (y : ℕ) (b : Bool) → test y ≡ b → filter test xs ++ filter test (y ∷ []) ≡ (if b then filter test xs ++ y ∷ [] else filter test xs)
filter_one test xs y true e = rw e
filter_one test xs y false e = rw e (append-nil (filter test xs))

-- one more port
pub ports_more : (test : ℕ → Bool) (n : ℕ) (b : Bool) → test (n + 1) ≡ b → ports_where test (n + 1) ≡ (if b then ports_where test n ++ (n + 1) ∷ [] else ports_where test n)
unfolding ports_where
ports_more test n b e =
    let m : 1 + n ≡ n + 1 = omega arith in
    let last : range_with_len 1 (n + 1) ≡ range_with_len 1 n ++ (n + 1) ∷ [] = ap (range_with_len 1) (add-one n) ∙ range_last 1 n (n + 1) m in
    ap (filter test) last ∙ (filter-append test (range_with_len 1 n) ((n + 1) ∷ []) ∙ filter_one test (range_with_len 1 n) (n + 1) b e)

pub ports_none : (test : ℕ → Bool) → ports_where test 0 ≡ []
unfolding ports_where
ports_none test = refl

-- one more port of a loop that walks them
pub walk_step : (test : ℕ → Bool) (xs ys : List ℕ) (i : ℕ) (b : Bool) → xs ≡ ports_where test i → b ≡ test (i + 1) → ys ≡ (if b then xs ++ (i + 1) ∷ [] else xs) → ys ≡ ports_where test (i + 1)
walk_step test xs ys i b e f g =
    g ∙ (ap (λ (zs : List ℕ). if b then zs ++ (i + 1) ∷ [] else zs) e ∙ sym (ports_more test i b (sym f)))
