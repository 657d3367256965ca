-- Names of which neither begins the other, and the first is less: they differ, and where they first
-- do the first one has the smaller number.
use Rattle.std.proofs.Common.{◌≡◌, ℕ, suc, ◌<◌, Bool, true, false, cond, nat_eq, nat_lt, List, [], ◌∷◌, ◌++◌, refl, sym, ap, ◌∙◌, arith, ◌⊎◌, inl, inr}
use Rattle.std.proofs.lemmas.Bool.Decides.{eqb_tells, leb_tells, nat_tests}
use Rattle.std.proofs.lemmas.List.{append-nil}
use Rattle.oid_core.specs.Order.{name_lt, is_prefix}
use Rattle.oid_core.proofs.OrderLaws.{prefix_found}

abbrev pub is_below : List ℕ → List ℕ → Bool
is_below [] q = false
is_below (x ∷ p) [] = false
is_below (x ∷ p) (y ∷ q) = cond (nat_lt x y) true (cond (nat_eq x y) (is_below p q) false)

-- how two numbers compare, by each test
pub record IsLess (x y : ℕ) : Type 0 where
  pub less : x < y
  pub lt : nat_lt x y ≡ true
  pub eq : nat_eq x y ≡ false

pub record IsSame (x y : ℕ) : Type 0 where
  pub same : x ≡ y
  pub lt : nat_lt x y ≡ false
  pub eq : nat_eq x y ≡ true

pub order_decides : (x y : ℕ) → IsLess x y ⊎ (IsSame x y ⊎ IsLess y x)
order_decides x y = elim (leb_tells (suc x) y) [
  | inl s ↦ inl (record { less = omega (arith, s.1); lt = grind (arith, nat_tests, s.1); eq = grind (arith, nat_tests, s.1) })
  | inr s ↦ elim (eqb_tells x y) [
    | inl e ↦ inr (inl (record { same = e.1; lt = grind (arith, nat_tests, e.1); eq = e.0 }))
    | inr e ↦
        let less : y < x = omega (arith, s.1, e.1) in
        inr (inr (record { less = less; lt = grind (arith, nat_tests, less); eq = grind (arith, nat_tests, less) }))
  ]
]

-- not the other way round
lt_back : (x y : ℕ) → IsLess x y → nat_lt y x ≡ false
lt_back x y h = let less : x < y = h.less in grind (arith, nat_tests, less)

pub eq_back : (x y : ℕ) → IsLess x y → nat_eq y x ≡ false
eq_back x y h = let less : x < y = h.less in grind (arith, nat_tests, less)

lt_back_same : (x y : ℕ) → IsSame x y → nat_lt y x ≡ false
lt_back_same x y h = let same : x ≡ y = h.same in grind (arith, nat_tests, same)

pub eq_back_same : (x y : ℕ) → IsSame x y → nat_eq y x ≡ true
eq_back_same x y h = let same : x ≡ y = h.same in grind (arith, nat_tests, same)

pub less_then : (x y z : ℕ) → IsLess x y → IsLess y z → IsLess x z
less_then x y z h k =
    let a : x < y = h.less in
    let b : y < z = k.less in
    let c : x < z = omega (arith, a, b) in
    record { less = c; lt = grind (arith, nat_tests, c); eq = grind (arith, nat_tests, c) }

-- a name that is not greater than another, and does not begin it
pub below_from : (p q : List ℕ) → name_lt q p ≡ false → is_prefix p q ≡ false → is_below p q ≡ true
below_from [] q h k = absurd (cc)
below_from (x ∷ p) [] h k = absurd (cc)
below_from (x ∷ p) (y ∷ q) h k = elim (order_decides x y) [
  | inl l ↦ rw l.lt refl
  | inr (inl s) ↦
      let lt : nat_lt y x ≡ false = lt_back_same x y s in
      let eq : nat_eq y x ≡ true = eq_back_same x y s in
      let h2 : name_lt q p ≡ false = rw (lt, eq) at h in
      let k2 : is_prefix p q ≡ false = rw s.eq at k in
      rw (s.lt, s.eq) (below_from p q h2 k2)
  | inr (inr l) ↦ let h2 : true ≡ false = rw l.lt at h in absurd (cc)
]

-- what one below the other says of the first numbers
pub below_decides : (x y : ℕ) (p q : List ℕ) → is_below (x ∷ p) (y ∷ q) ≡ true → IsLess x y ⊎ (IsSame x y × (is_below p q ≡ true))
below_decides x y p q h = elim (order_decides x y) [
  | inl l ↦ inl l
  | inr (inl s) ↦ inr (s, rw (s.lt, s.eq) at h)
  | inr (inr l) ↦
      let lt : nat_lt x y ≡ false = lt_back y x l in
      let eq : nat_eq x y ≡ false = eq_back y x l in
      let f : false ≡ true = rw (lt, eq) at h in
      absurd (cc)
]

pub below_then : (p q r : List ℕ) → is_below p q ≡ true → is_below q r ≡ true → is_below p r ≡ true
below_then [] q r h k = absurd (cc)
below_then (x ∷ p) [] r h k = absurd (cc)
below_then (x ∷ p) (y ∷ q) [] h k = absurd (cc)
below_then (x ∷ p) (y ∷ q) (z ∷ r) h k = elim (below_decides x y p q h) [
  | inl a ↦ elim (below_decides y z q r k) [
    | inl b ↦ let c : IsLess x z = less_then x y z a b in rw c.lt refl
    | inr b ↦ let lt : nat_lt x z ≡ true = ap (λ n. nat_lt x n) (sym b.0.same) ∙ a.lt in rw lt refl
  ]
  | inr a ↦ elim (below_decides y z q r k) [
    | inl b ↦ let lt : nat_lt x z ≡ true = ap (λ n. nat_lt n z) a.0.same ∙ b.lt in rw lt refl
    | inr b ↦
        let lt : nat_lt x z ≡ false = ap (λ n. nat_lt n z) a.0.same ∙ b.0.lt in
        let eq : nat_eq x z ≡ true = ap (λ n. nat_eq n z) a.0.same ∙ b.0.eq in
        rw (lt, eq) (below_then p q r a.1 b.1)
  ]
]

-- all that the lower one begins is less than all that the other begins
pub below_lt : (p q a b : List ℕ) → is_below p q ≡ true → name_lt (p ++ a) (q ++ b) ≡ true
below_lt [] q a b h = absurd (cc)
below_lt (x ∷ p) [] a b h = absurd (cc)
below_lt (x ∷ p) (y ∷ q) a b h = elim (below_decides x y p q h) [
  | inl l ↦ rw l.lt refl
  | inr s ↦ rw (s.0.lt, s.0.eq) (below_lt p q a b s.1)
]

-- what the lower one begins is less than the other
pub begun_lt : (p q name : List ℕ) → is_below p q ≡ true → is_prefix p name ≡ true → name_lt name q ≡ true
begun_lt p q name h k =
    let begun = prefix_found p name k in
    ap (λ n. name_lt n q) begun.parts ∙ ap (name_lt (p ++ begun.rest)) (sym (append-nil q)) ∙ below_lt p q begun.rest [] h

-- what a name begins is not less than it
pub begun_not_lt : (q name : List ℕ) → is_prefix q name ≡ true → name_lt name q ≡ false
begun_not_lt [] [] h = refl
begun_not_lt [] (y ∷ name) h = refl
begun_not_lt (x ∷ q) [] h = absurd (cc)
begun_not_lt (x ∷ q) (y ∷ name) h = elim (eqb_tells x y) [
  | inl e ↦
      let same : x ≡ y = e.1 in
      let lt : nat_lt y x ≡ false = grind (arith, nat_tests, same) in
      let eq : nat_eq y x ≡ true = grind (arith, nat_tests, same) in
      let under : is_prefix q name ≡ true = rw e.0 at h in
      rw (lt, eq) (begun_not_lt q name under)
  | inr e ↦ let f : false ≡ true = rw e.0 at h in absurd (cc)
]

-- what one of two begins the other does not
pub begun_apart : (p q name : List ℕ) (b : Bool) → is_below p q ≡ true → is_prefix p name ≡ true → is_prefix q name ≡ b → b ≡ false
begun_apart p q name true h k l = let lt = begun_lt p q name h k in let not = begun_not_lt q name l in absurd (cc)
begun_apart p q name false h k l = refl

pub begun_apart_back : (p q name : List ℕ) (b : Bool) → is_below p q ≡ true → is_prefix q name ≡ true → is_prefix p name ≡ b → b ≡ false
begun_apart_back p q name true h k l = let lt = begun_lt p q name h l in let not = begun_not_lt q name k in absurd (cc)
begun_apart_back p q name false h k l = refl

-- the lower one is less
pub below_itself_lt : (p q : List ℕ) → is_below p q ≡ true → name_lt p q ≡ true
below_itself_lt p q h = ap (λ n. name_lt n q) (sym (append-nil p)) ∙ ap (name_lt (p ++ [])) (sym (append-nil q)) ∙ below_lt p q [] [] h

-- ---- a name in front of one has nothing behind it

-- one that is below a name is below what that name begins
pub below_more : (p q rest : List ℕ) → is_below p q ≡ true → is_below p (q ++ rest) ≡ true
below_more [] q rest h = absurd (cc)
below_more (x ∷ p) [] rest h = absurd (cc)
below_more (x ∷ p) (y ∷ q) rest h = elim (below_decides x y p q h) [
  | inl l ↦ rw l.lt refl
  | inr s ↦ rw (s.0.lt, s.0.eq) (below_more p q rest s.1)
]

-- and below each greater name
pub below_lt_then : (p q r : List ℕ) → is_below p q ≡ true → name_lt q r ≡ true → is_below p r ≡ true
below_lt_then [] q r h k = absurd (cc)
below_lt_then (x ∷ p) [] r h k = absurd (cc)
below_lt_then (x ∷ p) (y ∷ q) [] h k = absurd (cc)
below_lt_then (x ∷ p) (y ∷ q) (z ∷ r) h k = elim (below_decides x y p q h) [
  | inl a ↦ elim (order_decides y z) [
    | inl b ↦ let c : IsLess x z = less_then x y z a b in rw c.lt refl
    | inr (inl b) ↦ let lt : nat_lt x z ≡ true = ap (λ n. nat_lt x n) (sym b.same) ∙ a.lt in rw lt refl
    | inr (inr b) ↦
        let lt : nat_lt y z ≡ false = lt_back z y b in
        let eq : nat_eq y z ≡ false = eq_back z y b in
        let f : false ≡ true = rw (lt, eq) at k in
        absurd (cc)
  ]
  | inr a ↦ elim (order_decides y z) [
    | inl b ↦ let lt : nat_lt x z ≡ true = ap (λ n. nat_lt n z) a.0.same ∙ b.lt in rw lt refl
    | inr (inl b) ↦
        let lt : nat_lt x z ≡ false = ap (λ n. nat_lt n z) a.0.same ∙ b.lt in
        let eq : nat_eq x z ≡ true = ap (λ n. nat_eq n z) a.0.same ∙ b.eq in
        let more : name_lt q r ≡ true = rw (b.lt, b.eq) at k in
        rw (lt, eq) (below_lt_then p q r a.1 more)
    | inr (inr b) ↦
        let lt : nat_lt y z ≡ false = lt_back z y b in
        let eq : nat_eq y z ≡ false = eq_back z y b in
        let f : false ≡ true = rw (lt, eq) at k in
        absurd (cc)
  ]
]

-- what is above one is not less than it
pub above_not_lt : (p q : List ℕ) → is_below p q ≡ true → name_lt q p ≡ false
above_not_lt [] q h = absurd (cc)
above_not_lt (x ∷ p) [] h = absurd (cc)
above_not_lt (x ∷ p) (y ∷ q) h = elim (below_decides x y p q h) [
  | inl l ↦ let lt : nat_lt y x ≡ false = lt_back x y l in let eq : nat_eq y x ≡ false = eq_back x y l in rw (lt, eq) refl
  | inr s ↦ let lt : nat_lt y x ≡ false = lt_back_same x y s.0 in let eq : nat_eq y x ≡ true = eq_back_same x y s.0 in rw (lt, eq) (above_not_lt p q s.1)
]

-- nor begun by it
pub above_not_begun : (p q : List ℕ) → is_below p q ≡ true → is_prefix p q ≡ false
above_not_begun [] q h = absurd (cc)
above_not_begun (x ∷ p) [] h = absurd (cc)
above_not_begun (x ∷ p) (y ∷ q) h = elim (below_decides x y p q h) [
  | inl l ↦ rw l.eq refl
  | inr s ↦ rw s.0.eq (above_not_begun p q s.1)
]
