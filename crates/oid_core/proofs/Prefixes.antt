-- Names that a prefix begins stand together in the order of names.
use Rattle.std.proofs.Common.{◌≡◌, ℕ, suc, ◌<◌, refl, true, false, nat_eq, nat_lt, List, [], ◌∷◌, arith, ◌⊎◌, inl, inr}
use Rattle.std.proofs.lemmas.Bool.Decides.{eqb_tells, leb_tells, nat_tests}
use Rattle.oid_core.specs.Order.{name_lt, name_eq, is_prefix}

-- by the first number, or by the others
pub lt_decides : (x y : ℕ) (xs ys : List ℕ) → name_lt (x ∷ xs) (y ∷ ys) ≡ true → (x < y) ⊎ ((x ≡ y) × (name_lt xs ys ≡ true))
lt_decides x y xs ys h = elim (leb_tells (suc x) y) [
  | inl s ↦ inl (omega (arith, s.1))
  | inr s ↦
      let low : nat_lt x y ≡ false = grind (arith, nat_tests, s.1) in
      elim (eqb_tells x y) [
        | inl e ↦ inr (e.1, rw (low, e.0) at h)
        | inr e ↦ let none : false ≡ true = rw (low, e.0) at h in absurd (cc)
      ]
]

pub prefix_itself : (name : List ℕ) → is_prefix name name ≡ true
prefix_itself [] = refl
prefix_itself (x ∷ xs) = let same : nat_eq x x ≡ true = grind (arith, nat_tests) in rw same (prefix_itself xs)

-- what a prefix begins is the prefix or stands after it
pub prefix_cases : (front name : List ℕ) → is_prefix front name ≡ true → (name_eq name front ≡ true) ⊎ (name_lt front name ≡ true)
prefix_cases [] [] h = inl refl
prefix_cases [] (y ∷ ys) h = inr refl
prefix_cases (a ∷ p) [] h = absurd (cc)
prefix_cases (a ∷ p) (y ∷ ys) h = elim (eqb_tells a y) [
  | inl e ↦
      let k : is_prefix p ys ≡ true = rw e.0 at h in
      let s : a ≡ y = e.1 in
      let back : nat_eq y a ≡ true = grind (arith, nat_tests, s) in
      let low : nat_lt a y ≡ false = grind (arith, nat_tests, s) in
      let to : nat_eq a y ≡ true = e.0 in
      elim (prefix_cases p ys k) [ inl c ↦ inl (rw back c) | inr c ↦ inr (rw (low, to) c) ]
  | inr e ↦ let k : false ≡ true = rw e.0 at h in absurd (cc)
]

-- what stands between a prefix and a name that it begins, it begins
pub prefix_between : (front y name : List ℕ) → is_prefix front name ≡ true → name_lt front y ≡ true → name_lt y name ≡ true → is_prefix front y ≡ true
prefix_between [] y name h k l = refl
prefix_between (a ∷ p) y [] h k l = absurd (cc)
prefix_between (a ∷ p) [] (z ∷ zs) h k l = absurd (cc)
prefix_between (a ∷ p) (y ∷ ys) (z ∷ zs) h k l = elim (eqb_tells a z) [
  | inr e ↦ let f : false ≡ true = rw e.0 at h in absurd (cc)
  | inl e ↦
      let under : is_prefix p zs ≡ true = rw e.0 at h in
      let s : a ≡ z = e.1 in
      elim (lt_decides a y p ys k) [
        | inl c ↦ elim (lt_decides y z ys zs l) [
          | inl d ↦ absurd (omega (arith, c, d, s))
          | inr d ↦ let d0 : y ≡ z = d.0 in absurd (omega (arith, c, d0, s))
        ]
        | inr c ↦
            let c0 : a ≡ y = c.0 in
            let same : nat_eq a y ≡ true = grind (arith, nat_tests, c0) in
            elim (lt_decides y z ys zs l) [
              | inl d ↦ absurd (omega (arith, c0, d, s))
              | inr d ↦ rw same (prefix_between p ys zs under c.1 d.1)
            ]
      ]
]
