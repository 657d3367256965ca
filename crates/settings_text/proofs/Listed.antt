-- The numbers of the ports of a set, one port after the other.
use Rattle.std.proofs.Common.{◌≡◌, ℕ, zero, suc, ◌+◌, Bool, true, false, List, [], ◌∷◌, ◌++◌, map, filter, refl, sym, ap, ◌∙◌, append-nil, arith}
use Rattle.std.specs.List.{range_with_len}
use Rattle.std.proofs.lemmas.List.{map-append}
use Rattle.std.proofs.lemmas.List.Elements.{filter-append}
use Rattle.toml.specs.View.{view}
use Rattle.toml.specs.declared.value.Value.{Value}
use Rattle.settings_text.specs.Writing.{number}

last : (a n j : ℕ) → a + n ≡ j → range_with_len a (suc n) ≡ range_with_len a n ++ j ∷ []
last a zero j e = let same : a ≡ j = omega arith in ap (λ k. k ∷ []) same
last a (suc n) j e = ap (λ l. a ∷ l) (last (a + 1) n j (omega arith))

counting_more : (a n j : ℕ) → a + n ≡ j → range_with_len a (n + 1) ≡ range_with_len a n ++ j ∷ []
counting_more a n j e = let on : n + 1 ≡ suc n = omega arith in ap (range_with_len a) on ∙ last a n j e

listed_more : (p : ℕ → Bool) (n : ℕ) → map number (filter p (range_with_len 1 (n + 1))) ≡ map number (filter p (range_with_len 1 n)) ++ map number (filter p ((n + 1) ∷ []))
listed_more p n =
    ap (λ xs. map number (filter p xs)) (counting_more 1 n (n + 1) (omega arith))
    ∙ (ap (map number) (filter-append p (range_with_len 1 n) ((n + 1) ∷ [])) ∙ map-append number (filter p (range_with_len 1 n)) (filter p ((n + 1) ∷ [])))

pub listed_one : (p : ℕ → Bool) (n : ℕ) (old new : List Value) (v : Value) → new ≡ old ++ v ∷ [] → map view old ≡ map number (filter p (range_with_len 1 n)) → view v ≡ number (n + 1) → p (n + 1) ≡ true
    → map view new ≡ map number (filter p (range_with_len 1 (n + 1)))
listed_one p n old new v is h seen there =
    let more : map number (filter p ((n + 1) ∷ [])) ≡ number (n + 1) ∷ [] = rw there refl in
    rw is (map-append view old (v ∷ []) ∙ rw (h, seen) (sym (listed_more p n ∙ ap (λ xs. map number (filter p (range_with_len 1 n)) ++ xs) more)))

pub listed_none : (p : ℕ → Bool) (n : ℕ) (old : List Value) → map view old ≡ map number (filter p (range_with_len 1 n)) → p (n + 1) ≡ false
    → map view old ≡ map number (filter p (range_with_len 1 (n + 1)))
listed_none p n old h away =
    let more : map number (filter p ((n + 1) ∷ [])) ≡ [] = rw away refl in
    h ∙ sym (listed_more p n ∙ (ap (λ xs. map number (filter p (range_with_len 1 n)) ++ xs) more ∙ append-nil _))
