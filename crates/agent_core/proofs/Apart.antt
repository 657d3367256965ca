-- Names of which none begins another.
use Rattle.std.proofs.Common.{◌≡◌, ℕ, refl, Bool, true, false, cond, not, ◌&&◌, nat_eq, List, [], ◌∷◌, Some, None, ◌⊎◌, inl, inr, All, IsTrue, arith}
use Rattle.std.proofs.lemmas.Bool.Decides.{eqb_tells, nat_tests}
use Rattle.std.proofs.lemmas.List.Elements.{All-cons, All-head, All-tail, All-weaker}
use Rattle.oid_core.specs.Order.{is_prefix}
use Rattle.setphase_core.specs.Registry.{is_apart, AreApart}
use Rattle.agent_core.specs.Reading.{object_of}
use Rattle.agent_core.proofs.Pairs.{pairs_head, pairs_tail}

-- of two names that begin a third, one begins the other
one_begins : (x y name : List ℕ) → is_prefix x name ≡ true → is_prefix y name ≡ true → (is_prefix x y ≡ true) ⊎ (is_prefix y x ≡ true)
one_begins [] y name h k = inl refl
one_begins (a ∷ x) [] name h k = inr refl
one_begins (a ∷ x) (b ∷ y) [] h k = absurd (cc)
one_begins (a ∷ x) (b ∷ y) (n ∷ name) h k = elim (eqb_tells a n) [
  | inr e ↦ let f : false ≡ true = rw e.0 at h in absurd (cc)
  | inl e ↦ elim (eqb_tells b n) [
    | inr d ↦ let f : false ≡ true = rw d.0 at k in absurd (cc)
    | inl d ↦
        let hx : is_prefix x name ≡ true = rw e.0 at h in
        let hy : is_prefix y name ≡ true = rw d.0 at k in
        let an : a ≡ n = e.1 in
        let bn : b ≡ n = d.1 in
        let to : nat_eq a b ≡ true = grind (arith, nat_tests, an, bn) in
        let back : nat_eq b a ≡ true = grind (arith, nat_tests, an, bn) in
        elim (one_begins x y name hx hy) [ inl p ↦ inl (rw to p) | inr p ↦ inr (rw back p) ]
  ]
]

never : (x y : List ℕ) (p q : Bool) → is_prefix x y ≡ p → is_prefix y x ≡ q → (p ≡ true) ⊎ (q ≡ true) → is_apart x y ≡ true → false ≡ true
never x y true q e f h k = let g : (not (is_prefix x y) && not (is_prefix y x)) ≡ false = rw e refl in cc
never x y false true e f h k = let g : (not (is_prefix x y) && not (is_prefix y x)) ≡ false = rw (e, f) refl in cc
never x y false false e f h k = elim h [ inl a ↦ a | inr a ↦ a ]

-- the object that begins a name is the object of the name
pub one_object_law : (objects : List (List ℕ)) (name : List ℕ) → AreApart objects → All (λ object. is_prefix object name ≡ true → object_of objects name ≡ Some object) objects
one_object_law [] name h = λ i d within. absurd (omega (arith, within))
one_object_law (x ∷ xs) name h = first (is_prefix x name) refl (one_object_law xs name (pairs_tail (λ (a b : List ℕ). IsTrue (is_apart a b)) x xs h))
  where
    first : (b : Bool) → is_prefix x name ≡ b → All (λ object. is_prefix object name ≡ true → object_of xs name ≡ Some object) xs →
        All (λ object. is_prefix object name ≡ true → cond b (Some x) (object_of xs name) ≡ Some object) (x ∷ xs)
    first true e more = All-cons (λ (object : List ℕ). is_prefix object name ≡ true → Some x ≡ Some object) x xs (λ _. refl)
        (All-weaker (λ (y : List ℕ). is_apart x y ≡ true) (λ (object : List ℕ). is_prefix object name ≡ true → Some x ≡ Some object)
        (λ y k m. let f : false ≡ true = never x y (is_prefix x y) (is_prefix y x) refl refl (one_begins x y name e m) k in absurd (cc)) xs (pairs_head (λ (a b : List ℕ). IsTrue (is_apart a b)) x xs h))
    first false e more = All-cons (λ (object : List ℕ). is_prefix object name ≡ true → object_of xs name ≡ Some object) x xs (λ m. absurd (cc)) more

-- behind the object that begins a name no other does
pub no_other : (x : List ℕ) (others : List (List ℕ)) (name : List ℕ) → All (λ y. IsTrue (is_apart x y)) others → is_prefix x name ≡ true → object_of others name ≡ None
no_other x [] name h k = refl
no_other x (y ∷ ys) name h k = pick (is_prefix y name) refl (no_other x ys name (All-tail (λ (z : List ℕ). IsTrue (is_apart x z)) y ys h) k)
  where
    pick : (b : Bool) → is_prefix y name ≡ b → object_of ys name ≡ None → cond b (Some y) (object_of ys name) ≡ None
    pick true e more =
        let f : false ≡ true = never x y (is_prefix x y) (is_prefix y x) refl refl (one_begins x y name k e) (All-head (λ (z : List ℕ). IsTrue (is_apart x z)) y ys h) in
        absurd (cc)
    pick false e more = more
