-- The objects whose names begin with a front stand one behind another.
use Rattle.std.proofs.Common.{◌≡◌, ℕ, ◌+◌, ◌-◌, ◌/◌, ◌<◌, ◌≤◌, true, false, nat_eq, List, [], ◌∷◌, length, refl, ap, subst, ◌∙◌, arith, inl, inr}
use Rattle.std.proofs.lemmas.Bool.Decides.{eqb_tells}
use Rattle.oid_core.specs.Order.{is_prefix}
use Rattle.setphase_core.specs.Searching.{prefix_at, AreBegun}
use Rattle.setphase_core.proofs.Below.{is_below, below_decides}
use Rattle.setphase_core.proofs.Ordered.{AreOrdered, ordered_at}

begins_decides : (x y : ℕ) (p n : List ℕ) → is_prefix (x ∷ p) (y ∷ n) ≡ true → (x ≡ y) × (is_prefix p n ≡ true)
begins_decides x y p n h = elim (eqb_tells x y) [
  | inl e ↦ (e.1, rw e.0 at h)
  | inr e ↦ let f : false ≡ true = rw e.0 at h in absurd (cc)
]

-- what begins two names begins each between them
between : (f a b c : List ℕ) → is_below a b ≡ true → is_below b c ≡ true → is_prefix f a ≡ true → is_prefix f c ≡ true → is_prefix f b ≡ true
between [] a b c h k m n = refl
between (z ∷ f) [] b c h k m n = absurd (cc)
between (z ∷ f) (x ∷ a) [] c h k m n = absurd (cc)
between (z ∷ f) (x ∷ a) (y ∷ b) [] h k m n = absurd (cc)
between (z ∷ f) (x ∷ a) (y ∷ b) (w ∷ c) h k m n =
    let first = begins_decides z x f a m in
    let last = begins_decides z w f c n in
    elim (below_decides x y a b h) [
      | inl l ↦ elim (below_decides y w b c k) [
        | inl j ↦ absurd (omega (arith, first.0, last.0, l.less, j.less))
        | inr j ↦ absurd (omega (arith, first.0, last.0, l.less, j.0.same))
      ]
      | inr s ↦ elim (below_decides y w b c k) [
        | inl j ↦ absurd (omega (arith, first.0, last.0, s.0.same, j.less))
        | inr j ↦
            let eq : nat_eq z y ≡ true = ap (λ i. nat_eq i y) first.0 ∙ s.0.eq in
            rw eq (between f a b c s.1 j.1 first.1 last.1)
      ]
    ]

-- the same by places
pub begun_between : (prefixes : List (List ℕ)) (front : List ℕ) (i k j : ℕ) → AreOrdered prefixes → i ≤ k → k ≤ j → j < length prefixes →
    is_prefix front (prefix_at prefixes i) ≡ true → is_prefix front (prefix_at prefixes j) ≡ true → is_prefix front (prefix_at prefixes k) ≡ true
begun_between prefixes front i k j ordered low high within first last = elim (eqb_tells i k) [
  | inl e ↦ subst (λ n. is_prefix front (prefix_at prefixes n) ≡ true) e.1 first
  | inr e ↦ elim (eqb_tells k j) [
    | inl d ↦ subst (λ n. is_prefix front (prefix_at prefixes n) ≡ true) (omega (arith, d.1)) last
    | inr d ↦
        between front (prefix_at prefixes i) (prefix_at prefixes k) (prefix_at prefixes j)
        (ordered_at prefixes i k ordered (omega (arith, low, e.1)) (omega (arith, high, within))) (ordered_at prefixes k j ordered (omega (arith, high, d.1)) within) first last
  ]
]

-- what stands between the turns of the search for the end: it is from `low` to `high`
pub record IsHalved (prefixes : List (List ℕ)) (front : List ℕ) (place low high : ℕ) : Type 0 where
  pub after : place < low
  pub order : low ≤ high
  pub within : high ≤ length prefixes
  pub begun : (k : ℕ) → place ≤ k → k < low → is_prefix front (prefix_at prefixes k) ≡ true
  pub ended : high < length prefixes → is_prefix front (prefix_at prefixes high) ≡ false

pub halves_begin : (prefixes : List (List ℕ)) (front : List ℕ) (place high : ℕ) → place < high → high ≡ length prefixes → is_prefix front (prefix_at prefixes place) ≡ true → IsHalved prefixes front place (place + 1) high
halves_begin prefixes front place high lt e h = record {
  after = omega arith;
  order = omega (arith, lt);
  within = omega (arith, e);
  begun = λ k l m. let same : place ≡ k = omega (arith, l, m) in subst (λ n. is_prefix front (prefix_at prefixes n) ≡ true) same h;
  ended = λ l. absurd (omega (arith, l, e));
}

pub half_up : (prefixes : List (List ℕ)) (front : List ℕ) (place low high middle : ℕ) → AreOrdered prefixes → IsHalved prefixes front place low high → low < high → middle ≡ low + (high - low) / 2 →
    is_prefix front (prefix_at prefixes middle) ≡ true → IsHalved prefixes front place (middle + 1) high
half_up prefixes front place low high middle ordered s lt is h =
    let under : middle < high = omega (arith, is, lt) in
    let over : low ≤ middle = omega (arith, is) in
    record {
      after = omega (arith, s.after, over);
      order = omega (arith, under);
      within = s.within;
      begun = λ k l m. begun_between prefixes front place k middle ordered l (omega (arith, m)) (omega (arith, under, s.within)) (s.begun place (omega arith) s.after) h;
      ended = s.ended;
    }

pub half_down : (prefixes : List (List ℕ)) (front : List ℕ) (place low high middle : ℕ) → IsHalved prefixes front place low high → low < high → middle ≡ low + (high - low) / 2 →
    is_prefix front (prefix_at prefixes middle) ≡ false → IsHalved prefixes front place low middle
half_down prefixes front place low high middle s lt is h = record {
  after = s.after;
  order = omega (arith, is);
  within = omega (arith, is, lt, s.within);
  begun = s.begun;
  ended = λ l. h;
}

pub halves_end : (prefixes : List (List ℕ)) (front : List ℕ) (place low high : ℕ) → IsHalved prefixes front place low high → high ≤ low → AreBegun prefixes front place low
halves_end prefixes front place low high s le =
    let same : high ≡ low = omega (arith, le, s.order) in
    record {
      after = omega (arith, s.after);
      within = omega (arith, s.order, s.within);
      begun = s.begun;
      ended = subst (λ n. n < length prefixes → is_prefix front (prefix_at prefixes n) ≡ false) same s.ended;
    }

-- where the object at the place is none of them, there are none
pub none_begun : (prefixes : List (List ℕ)) (front : List ℕ) (place : ℕ) → place ≤ length prefixes → (place < length prefixes → is_prefix front (prefix_at prefixes place) ≡ false) → AreBegun prefixes front place place
none_begun prefixes front place h e = record {
  after = omega arith;
  within = h;
  begun = λ k l m. absurd (omega (arith, l, m));
  ended = e;
}
