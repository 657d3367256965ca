-- What is found among the first numbers, one number further.
use Rattle.std.proofs.Common.{◌≡◌, ℕ, ◌+◌, zero, suc, List, [], ◌∷◌, ◌++◌, Option, filter_map, refl, sym, ap, ◌∙◌, arith}
use Rattle.std.specs.List.{range_with_len, cons_option}
use Rattle.std.proofs.lemmas.List.{append_assoc}
use Rattle.std.proofs.lemmas.List.Elements.{filter_map-append}

range_last : (a n j : ℕ) → a + n ≡ j → range_with_len a (suc n) ≡ range_with_len a n ++ j ∷ []
range_last a zero j e = let h : a ≡ j = omega arith in rw h
range_last a (suc n) j e = ap (λ (xs : List ℕ). a ∷ xs) (range_last (a + 1) n j (omega arith))

found_next : {W : Type 0} (f : ℕ → Option W) (n : ℕ) →
    filter_map f (range_with_len 0 (n + 1)) ≡ filter_map f (range_with_len 0 n) ++ filter_map f (n ∷ [])
found_next f n =
    let m : n + 1 ≡ suc n = omega arith in
    let last : range_with_len 0 (n + 1) ≡ range_with_len 0 n ++ n ∷ [] =
    ap (range_with_len 0) m ∙ range_last 0 n n (omega arith) in
    ap (filter_map f) last ∙ filter_map-append f (range_with_len 0 n) (n ∷ [])

-- what was found among the first numbers, and of the next one, is what is found among one more
pub found_step : {W : Type 0} (f : ℕ → Option W) (old now new : List W) (n : ℕ) (next : Option W) →
    now ≡ old ++ filter_map f (range_with_len 0 n) → next ≡ f n → new ≡ now ++ cons_option next [] →
    new ≡ old ++ filter_map f (range_with_len 0 (n + 1))
found_step {W} f old now new n next h e k =
    let found : List W = filter_map f (range_with_len 0 n) in
    k ∙ (ap (λ (xs : List W). xs ++ cons_option next []) h
    ∙ (ap (λ (o : Option W). (old ++ found) ++ cons_option o []) e
    ∙ (append_assoc old found (cons_option (f n) [])
    ∙ ap (λ (xs : List W). old ++ xs) (sym (found_next f n)))))
