-- What `cmp` and the tests of two lists say.
use Rattle.std.proofs.Common.{◌⊎◌, ◌≡◌, ℕ, ◌<◌, Bool, true, false, cond, eqb, List, [], ◌∷◌, ◌++◌, length, take, refl, sym, ap, subst, ◌∙◌, arith, inl, inr}
use Rattle.std.specs.Cmp.Lexicographic.{slice_cmp, pointwise}
use Rattle.std.specs.declared.cmp.Ordering.{Ordering}
use Rattle.std.specs.declared.cmp.Ordering.TheVariants.{Less, Equal, Greater}
use Rattle.std.specs.Ordering.{nat_cmp, ordering_then, MatchOrdering, is_lt, ordering_reverse}
use Rattle.std.proofs.lemmas.Cmp.{ranked, same_from_slice_cmp, nat_list_cmp_total, tied_itself}
use Rattle.std.proofs.lemmas.Bool.{eq-eqb}
use Rattle.std.proofs.lemmas.Bool.Decides.{nat_tests, eqb_tells}
use Rattle.oid_core.specs.Order.{IsPrefix, IsBefore, name_lt, name_eq, is_prefix}

-- one number more in front
grow : (x y : ℕ) (xs ys : List ℕ) → x ≡ y → IsBefore xs ys → IsBefore (x ∷ xs) (y ∷ ys)
grow x y xs ys e (inl p) = inl (record { next = p.next; rest = p.rest; parts = ap (λ (k : ℕ). k ∷ ys) (sym e) ∙ ap (λ (t : List ℕ). x ∷ t) p.parts })
grow x y xs ys e (inr d) = inr (record {
  front = x ∷ d.front;
  x = d.x;
  y = d.y;
  more = d.more;
  others = d.others;
  first = ap (λ (t : List ℕ). x ∷ t) d.first;
  second = ap (λ (k : ℕ). k ∷ ys) (sym e) ∙ ap (λ (t : List ℕ). x ∷ t) d.second;
  smaller = d.smaller;
})

at_once : (x y : ℕ) (xs ys : List ℕ) → x < y → IsBefore (x ∷ xs) (y ∷ ys)
at_once x y xs ys lt = inr (record { front = []; x = x; y = y; more = xs; others = ys; first = refl; second = refl; smaller = lt })

equal_then : (o : Ordering) (x y : ℕ) (xs ys : List ℕ) → x ≡ y → MatchOrdering o (IsBefore xs ys) (xs ≡ ys) (IsBefore ys xs) → MatchOrdering o (IsBefore (x ∷ xs) (y ∷ ys)) ((x ∷ xs) ≡ (y ∷ ys)) (IsBefore (y ∷ ys) (x ∷ xs))
equal_then Less x y xs ys e m = grow x y xs ys e m
equal_then Equal x y xs ys e m = cc
equal_then Greater x y xs ys e m = grow y x ys xs (sym e) m

then_compared : (o p : Ordering) (x y : ℕ) (xs ys : List ℕ) → MatchOrdering o (x < y) (x ≡ y) (y < x) → MatchOrdering p (IsBefore xs ys) (xs ≡ ys) (IsBefore ys xs)
    → MatchOrdering (ordering_then o p) (IsBefore (x ∷ xs) (y ∷ ys)) ((x ∷ xs) ≡ (y ∷ ys)) (IsBefore (y ∷ ys) (x ∷ xs))
then_compared Less p x y xs ys m n = at_once x y xs ys m
then_compared Equal p x y xs ys m n = equal_then p x y xs ys m n
then_compared Greater p x y xs ys m n = at_once y x ys xs m

-- what each answer means
pub compared : (a b : List ℕ) → MatchOrdering (slice_cmp nat_cmp a b) (IsBefore a b) (a ≡ b) (IsBefore b a)
compared [] [] = refl
compared [] (y ∷ ys) = inl (record { next = y; rest = ys; parts = refl })
compared (x ∷ xs) [] = inl (record { next = x; rest = xs; parts = refl })
compared (x ∷ xs) (y ∷ ys) = then_compared (nat_cmp x y) (slice_cmp nat_cmp xs ys) x y xs ys (ranked x y (nat_cmp x y) refl) (compared xs ys)

at_answer : (o : Ordering) (a b : List ℕ) → slice_cmp nat_cmp a b ≡ o → MatchOrdering o (IsBefore a b) (a ≡ b) (IsBefore b a)
at_answer o a b e = subst (λ (p : Ordering). MatchOrdering p (IsBefore a b) (a ≡ b) (IsBefore b a)) e (compared a b)

same_cmp : (x : ℕ) → nat_cmp x x ≡ Equal
same_cmp x = grind (arith, nat_tests)

less_cmp : (x y : ℕ) → x < y → nat_cmp x y ≡ Less
less_cmp x y lt = grind (arith, nat_tests)

prefix_cmp : (front rest : List ℕ) (next : ℕ) → slice_cmp nat_cmp front (front ++ next ∷ rest) ≡ Less
prefix_cmp [] rest next = refl
prefix_cmp (x ∷ front) rest next = ap (λ (o : Ordering). ordering_then o (slice_cmp nat_cmp front (front ++ next ∷ rest))) (same_cmp x) ∙ prefix_cmp front rest next

differs_cmp : (front more others : List ℕ) (x y : ℕ) → x < y → slice_cmp nat_cmp (front ++ x ∷ more) (front ++ y ∷ others) ≡ Less
differs_cmp [] more others x y lt = ap (λ (o : Ordering). ordering_then o (slice_cmp nat_cmp more others)) (less_cmp x y lt)
differs_cmp (z ∷ front) more others x y lt = ap (λ (o : Ordering). ordering_then o (slice_cmp nat_cmp (front ++ x ∷ more) (front ++ y ∷ others))) (same_cmp z) ∙ differs_cmp front more others x y lt

pub before_cmp : (a b : List ℕ) → IsBefore a b → slice_cmp nat_cmp a b ≡ Less
before_cmp a b (inl p) = ap (slice_cmp nat_cmp a) p.parts ∙ prefix_cmp a p.rest p.next
before_cmp a b (inr d) =
    ap (λ (t : List ℕ). slice_cmp nat_cmp t b) d.first ∙ ap (slice_cmp nat_cmp (d.front ++ d.x ∷ d.more)) d.second
    ∙ differs_cmp d.front d.more d.others d.x d.y d.smaller

pub after_cmp : (a b : List ℕ) → IsBefore b a → slice_cmp nat_cmp a b ≡ Greater
after_cmp a b h = nat_list_cmp_total.antisymm a b ∙ ap ordering_reverse (before_cmp b a h)

pub equal_cmp : (a b : List ℕ) → a ≡ b → slice_cmp nat_cmp a b ≡ Equal
equal_cmp a b e = ap (λ (t : List ℕ). slice_cmp nat_cmp t b) e ∙ tied_itself nat_list_cmp_total b

pub cmp_before : (a b : List ℕ) → slice_cmp nat_cmp a b ≡ Less → IsBefore a b
cmp_before a b e = at_answer Less a b e

pub cmp_equal : (a b : List ℕ) → slice_cmp nat_cmp a b ≡ Equal → a ≡ b
cmp_equal a b e = at_answer Equal a b e

pub cmp_after : (a b : List ℕ) → slice_cmp nat_cmp a b ≡ Greater → IsBefore b a
cmp_after a b e = at_answer Greater a b e

-- the test agrees with `cmp`
pub name_lt-cmp : (a b : List ℕ) (o : Ordering) → o ≡ slice_cmp nat_cmp a b → is_lt o ≡ name_lt a b
name_lt-cmp = same_from_slice_cmp nat_cmp is_lt name_lt refl (λ _ _. refl) (λ _ _. refl) (λ x y xs ys o h. grind (arith, nat_tests))

-- ---- prefixes

pub prefix_found : (front name : List ℕ) → is_prefix front name ≡ true → IsPrefix front name
prefix_found [] name e = record { rest = name; parts = refl }
prefix_found (x ∷ xs) [] e = absurd cc
prefix_found (x ∷ xs) (y ∷ ys) e =
    elim (eqb_tells x y) [
      | inl same ↦
          let tail : is_prefix xs ys ≡ true = (let step = ap (λ (t : Bool). cond t (is_prefix xs ys) false) same.0 in sym step ∙ e) in
          let p = prefix_found xs ys tail in
          record { rest = p.rest; parts = ap (λ (k : ℕ). k ∷ ys) (sym same.1) ∙ ap (λ (t : List ℕ). x ∷ t) p.parts }
      | inr other ↦ absurd (let step = ap (λ (t : Bool). cond t (is_prefix xs ys) false) other.0 in cc)
    ]

pub prefix_of : (front rest : List ℕ) → is_prefix front (front ++ rest) ≡ true
prefix_of [] rest = refl
prefix_of (x ∷ xs) rest = ap (λ (t : Bool). cond t (is_prefix xs (xs ++ rest)) false) (eq-eqb x x refl) ∙ prefix_of xs rest

pub prefix_only : (front name : List ℕ) → IsPrefix front name → is_prefix front name ≡ true
prefix_only front name p = ap (is_prefix front) p.parts ∙ prefix_of front p.rest

pub prefix_test : (front name : List ℕ) → pointwise eqb front (take (length front) name) ≡ is_prefix front name
prefix_test [] name = refl
prefix_test (x ∷ xs) [] = refl
prefix_test (x ∷ xs) (y ∷ ys) =
    elim (eqb_tells x y) [
      | inl same ↦ rw same.0 (prefix_test xs ys)
      | inr other ↦ rw other.0 refl
    ]

-- ---- the tests, and the order as a whole

cmp_lt : (a b : List ℕ) → is_lt (slice_cmp nat_cmp a b) ≡ name_lt a b
cmp_lt a b = name_lt-cmp a b (slice_cmp nat_cmp a b) refl

lt_less : (o : Ordering) → is_lt o ≡ true → o ≡ Less
lt_less Less e = refl
lt_less Equal e = absurd cc
lt_less Greater e = absurd cc

pub lt_before : (a b : List ℕ) → name_lt a b ≡ true → IsBefore a b
lt_before a b e = cmp_before a b (lt_less (slice_cmp nat_cmp a b) (cmp_lt a b ∙ e))

pub before_lt : (a b : List ℕ) → IsBefore a b → name_lt a b ≡ true
before_lt a b h = sym (cmp_lt a b) ∙ ap is_lt (before_cmp a b h)

pub eq_same : (a b : List ℕ) → name_eq a b ≡ true → a ≡ b
eq_same [] [] e = refl
eq_same [] (y ∷ ys) e = absurd cc
eq_same (x ∷ xs) [] e = absurd cc
eq_same (x ∷ xs) (y ∷ ys) e =
    elim (eqb_tells x y) [
      | inl same ↦
          let tail = eq_same xs ys (let step = ap (λ (t : Bool). cond t (name_eq xs ys) false) same.0 in sym step ∙ e) in
          let head = same.1 in
          cc
      | inr other ↦ absurd (let step = ap (λ (t : Bool). cond t (name_eq xs ys) false) other.0 in cc)
    ]

pub eq_itself : (a : List ℕ) → name_eq a a ≡ true
eq_itself [] = refl
eq_itself (x ∷ xs) = ap (λ (t : Bool). cond t (name_eq xs xs) false) (eq-eqb x x refl) ∙ eq_itself xs

pub same_eq : (a b : List ℕ) → a ≡ b → name_eq a b ≡ true
same_eq a b e = ap (λ (t : List ℕ). name_eq t b) e ∙ eq_itself b

in_order : (o : Ordering) (a b : List ℕ) → MatchOrdering o (IsBefore a b) (a ≡ b) (IsBefore b a) → IsBefore a b ⊎ ((a ≡ b) ⊎ IsBefore b a)
in_order Less a b m = inl m
in_order Equal a b m = inr (inl m)
in_order Greater a b m = inr (inr m)

pub any_two : (a b : List ℕ) → IsBefore a b ⊎ ((a ≡ b) ⊎ IsBefore b a)
any_two a b = in_order (slice_cmp nat_cmp a b) a b (compared a b)

pub not_itself : (a : List ℕ) → ¬ IsBefore a a
not_itself a h = let e = before_cmp a a h in let f = equal_cmp a a refl in cc

pub before_then : (a b c : List ℕ) → IsBefore a b → IsBefore b c → IsBefore a c
before_then a b c h k = cmp_before a c (nat_list_cmp_total.trans a b c (before_cmp a b h) (before_cmp b c k))

-- ---- laws of the test

pub name_lt-irrefl : (xs : List ℕ) → name_lt xs xs ≡ false
name_lt-irrefl xs = sym (cmp_lt xs xs) ∙ ap is_lt (equal_cmp xs xs refl)

pub name_lt-trans : (xs ys zs : List ℕ) → name_lt xs ys ≡ true → name_lt ys zs ≡ true → name_lt xs zs ≡ true
name_lt-trans xs ys zs h k = before_lt xs zs (before_then xs ys zs (lt_before xs ys h) (lt_before ys zs k))

-- not both ways
pub name_lt-asym : (xs ys : List ℕ) (b : Bool) → name_lt xs ys ≡ true → name_lt ys xs ≡ b → b ≡ false
name_lt-asym xs ys b h k = sym k ∙ sym (cmp_lt ys xs) ∙ ap is_lt (after_cmp ys xs (lt_before xs ys h))

pub eq_test : (a b : List ℕ) → pointwise eqb a b ≡ name_eq a b
eq_test [] [] = refl
eq_test [] (y ∷ ys) = refl
eq_test (x ∷ xs) [] = refl
eq_test (x ∷ xs) (y ∷ ys) =
    elim (eqb_tells x y) [
      | inl same ↦ rw same.0 (eq_test xs ys)
      | inr other ↦ rw other.0 refl
    ]
