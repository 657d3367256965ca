-- The binary search for the place of a name, and how many turns it takes.
use Rattle.std.proofs.Common.{◌≡◌, ℕ, zero, suc, ◌+◌, ◌-◌, ◌*◌, ◌/◌, ◌^◌, ◌<◌, ◌≤◌, Bool, not, ◌||◌, true, false, if◌then◌else◌, List, [], ◌∷◌, length, refl, sym, ap, subst, ◌∙◌, arith, Some, None, Err, inl, inr, add-one, find}
use Rattle.std.proofs.Math.Nat.{mul-le-mul_left, pow-succ'}
use Rattle.oid_core.specs.Order.{name_lt, is_prefix}
use Rattle.oid_core.proofs.OrderLaws.{name_lt-trans}
use Rattle.setphase_core.specs.Searching.{prefix_at, may_follow, IsPlaceBehind, IsOwnerPlace, IsPlace, least_comparisons}
use Rattle.setphase_core.proofs.Below.{begun_lt, begun_not_lt, begun_apart, begun_apart_back, below_itself_lt}
use Rattle.setphase_core.proofs.Ordered.{AreOrdered, ordered_at}
use Rattle.std.specs.List.{list_any}
use Rattle.std.proofs.lemmas.Bool.Decides.{eqb_tells, leb_tells}
use Rattle.std.proofs.lemmas.List.{get_or_read_under}
use Rattle.std.proofs.lemmas.List.Folds.{list_any_at, Any-from_list_any}

-- The names in front of the place are not greater than the name, and none of them begins it; each
-- from there on is greater, or begins it.
pub record IsStart (prefixes : List (List ℕ)) (name : List ℕ) (place : ℕ) : Type 0 where
  pub within : place ≤ length prefixes
  pub before : (k : ℕ) → k < place → name_lt name (prefix_at prefixes k) ≡ false
  pub apart : (k : ℕ) → k < place → is_prefix (prefix_at prefixes k) name ≡ false
  pub behind : (k : ℕ) → place ≤ k → k < length prefixes
      → may_follow name (prefix_at prefixes k) ≡ true

-- what stands between the turns: the place is from `low` to `high`, and `turns` turns have left so
-- little
pub record IsSearched (prefixes : List (List ℕ)) (name : List ℕ) (low high turns : ℕ) : Type 0 where
  pub order : low ≤ high
  pub within : high ≤ length prefixes
  pub before : (k : ℕ) → k < low → name_lt name (prefix_at prefixes k) ≡ false
  pub behind : (k : ℕ) → high ≤ k → k < length prefixes → name_lt name (prefix_at prefixes k) ≡ true
  pub apart : 0 < low → is_prefix (prefix_at prefixes (low - 1)) name ≡ false
  pub left : 2 ^ turns * (high - low) ≤ length prefixes
  pub work : 2 ^ turns ≤ 2 * length prefixes + 1
  pub raised : 0 < low → 1 ≤ turns
  pub lowered : high < length prefixes → 1 ≤ turns
  pub both : 0 < low → high < length prefixes → 2 ≤ turns

pub search_begins : (prefixes : List (List ℕ)) (name : List ℕ) → IsSearched prefixes name 0 (length prefixes) 0
search_begins prefixes name = record {
  order = omega arith;
  within = omega arith;
  before = λ k h. absurd (omega arith);
  behind = λ k h l. absurd (omega arith);
  apart = λ h. absurd (omega (arith, h));
  left = omega arith;
  work = omega arith;
  raised = λ h. absurd (omega (arith, h));
  lowered = λ h. absurd (omega (arith, h));
  both = λ h l. absurd (omega (arith, h));
}

-- half of what is left, after one turn more
halved : (power left half n : ℕ) → power * left ≤ n → 2 * half ≤ left → 2 * power * half ≤ n
halved power left half n h k = omega (arith, mul-le-mul_left power k, h, mul_swap power half)
  where
    mul_swap : (p e : ℕ) → 2 * p * e ≡ p * (2 * e)
    mul_swap p e = grind arith

doubled : (power left n : ℕ) → power * left ≤ n → 1 ≤ left → 2 * power ≤ 2 * n + 1
doubled power left n h k = omega (arith, mul-le-mul_left power k, h)

power_more : (turns : ℕ) → 2 ^ (turns + 1) ≡ 2 * 2 ^ turns
power_more turns = ap (λ n. 2 ^ n) (add-one turns) ∙ pow-succ' 2 turns

-- a name below a lower one is below the higher one
later : (prefixes : List (List ℕ)) (name : List ℕ) (i k : ℕ) → AreOrdered prefixes → i < length prefixes → i ≤ k → k < length prefixes →
    name_lt name (prefix_at prefixes i) ≡ true → name_lt name (prefix_at prefixes k) ≡ true
later prefixes name i k ordered within low high h = elim (eqb_tells i k) [
  | inl e ↦ subst (λ n. name_lt name (prefix_at prefixes n) ≡ true) e.1 h
  | inr e ↦ name_lt-trans name (prefix_at prefixes i) (prefix_at prefixes k) h (below_itself_lt (prefix_at prefixes i) (prefix_at prefixes k) (ordered_at prefixes i k ordered (omega (arith, low, e.1)) high))
]

earlier : (prefixes : List (List ℕ)) (name : List ℕ) (i k : ℕ) (b : Bool) → AreOrdered prefixes → i < length prefixes → k ≤ i →
    name_lt name (prefix_at prefixes i) ≡ false → name_lt name (prefix_at prefixes k) ≡ b → b ≡ false
earlier prefixes name i k true ordered within low h is = let lt = later prefixes name k i ordered (omega arith) low within is in absurd (cc)
earlier prefixes name i k false ordered within low h is = refl

pub search_left : (prefixes : List (List ℕ)) (name : List ℕ) (low high middle turns : ℕ) → AreOrdered prefixes → IsSearched prefixes name low high turns → low < high →
    middle ≡ low + (high - low) / 2 → name_lt name (prefix_at prefixes middle) ≡ true → IsSearched prefixes name low middle (turns + 1)
search_left prefixes name low high middle turns ordered s lt is below =
    let half : 2 * (middle - low) ≤ high - low = omega (arith, is) in
    let under : middle < high = omega (arith, is, lt) in
    record {
      order = omega (arith, is);
      within = omega (arith, under, s.within);
      before = s.before;
      behind = λ k h l. later prefixes name middle k ordered (omega (arith, under, s.within)) h l below;
      apart = s.apart;
      left = rw (power_more turns) (halved (2 ^ turns) (high - low) (middle - low) (length prefixes) s.left half);
      work = rw (power_more turns) (doubled (2 ^ turns) (high - low) (length prefixes) s.left (omega (arith, lt)));
      raised = λ h. omega arith;
      lowered = λ h. omega arith;
      both = λ h l. omega (arith, s.raised h);
    }

pub search_right : (prefixes : List (List ℕ)) (name : List ℕ) (low high middle turns : ℕ) → AreOrdered prefixes → IsSearched prefixes name low high turns → low < high →
    middle ≡ low + (high - low) / 2 → name_lt name (prefix_at prefixes middle) ≡ false → is_prefix (prefix_at prefixes middle) name ≡ false → IsSearched prefixes name (middle + 1) high (turns + 1)
search_right prefixes name low high middle turns ordered s lt is below not_begun =
    let half : 2 * (high - (middle + 1)) ≤ high - low = omega (arith, is) in
    let under : middle < high = omega (arith, is, lt) in
    record {
      order = omega (arith, under);
      within = s.within;
      before = λ k h. earlier prefixes name middle k _ ordered (omega (arith, under, s.within)) (omega (arith, h)) below refl;
      behind = s.behind;
      apart = λ h. subst (λ n. is_prefix (prefix_at prefixes n) name ≡ false) (omega arith) not_begun;
      left = rw (power_more turns) (halved (2 ^ turns) (high - low) (high - (middle + 1)) (length prefixes) s.left half);
      work = rw (power_more turns) (doubled (2 ^ turns) (high - low) (length prefixes) s.left (omega (arith, lt)));
      raised = λ h. omega arith;
      lowered = λ h. omega arith;
      both = λ h l. omega (arith, s.lowered l);
    }

-- what a turn that finds the owner has taken
pub search_found : (prefixes : List (List ℕ)) (name : List ℕ) (low high turns : ℕ) → IsSearched prefixes name low high turns → low < high → 2 ^ (turns + 1) ≤ 2 * length prefixes + 1
search_found prefixes name low high turns s lt = rw (power_more turns) (doubled (2 ^ turns) (high - low) (length prefixes) s.left (omega (arith, lt)))

-- ---- the owner is in front of that place, or there is none

pub owner_found : (prefixes : List (List ℕ)) (name : List ℕ) (i : ℕ) → AreOrdered prefixes → i < length prefixes → is_prefix (prefix_at prefixes i) name ≡ true → IsOwnerPlace prefixes name (Some i)
owner_found prefixes name i ordered within begun = (
  within,
  begun,
  λ k h ne. elim (leb_tells (suc k) i) [
    | inl s ↦ begun_apart_back (prefix_at prefixes k) (prefix_at prefixes i) name _ (ordered_at prefixes k i ordered (omega (arith, s.1)) within) begun refl
    | inr s ↦ begun_apart (prefix_at prefixes i) (prefix_at prefixes k) name _ (ordered_at prefixes i k ordered (omega (arith, s.1, ne)) h) begun refl
  ],
)

-- none of those from the place on begins the name
not_behind : (prefixes : List (List ℕ)) (name : List ℕ) (k : ℕ) (b : Bool) → name_lt name (prefix_at prefixes k) ≡ true → is_prefix (prefix_at prefixes k) name ≡ b → b ≡ false
not_behind prefixes name k true h is = let not = begun_not_lt (prefix_at prefixes k) name is in absurd (cc)
not_behind prefixes name k false h is = refl

-- nor does one in front of the last that is not greater
not_before : (prefixes : List (List ℕ)) (name : List ℕ) (i k : ℕ) (b : Bool) → AreOrdered prefixes → k < i → i < length prefixes → name_lt name (prefix_at prefixes i) ≡ false →
    is_prefix (prefix_at prefixes k) name ≡ b → b ≡ false
not_before prefixes name i k true ordered lt within h is =
    let up = begun_lt (prefix_at prefixes k) (prefix_at prefixes i) name (ordered_at prefixes k i ordered lt within) is in absurd (cc)
not_before prefixes name i k false ordered lt within h is = refl

pub early_not_begun : (prefixes : List (List ℕ)) (name : List ℕ) (place k : ℕ) → AreOrdered prefixes → IsPlaceBehind prefixes name place → k + 1 < place → is_prefix (prefix_at prefixes k) name ≡ false
early_not_begun prefixes name place k ordered p lt =
    not_before prefixes name (place - 1) k _ ordered (omega (arith, lt)) (omega (arith, lt, p.within)) (p.before (place - 1) (omega (arith, lt))) refl

pub owner_missing : (prefixes : List (List ℕ)) (name : List ℕ) (place : ℕ) → AreOrdered prefixes → IsPlaceBehind prefixes name place →
    (0 < place → is_prefix (prefix_at prefixes (place - 1)) name ≡ false) → IsOwnerPlace prefixes name None
owner_missing prefixes name place ordered p last k h = elim (leb_tells place k) [
  | inl s ↦ not_behind prefixes name k _ (p.behind k s.1 h) refl
  | inr s ↦ elim (eqb_tells (k + 1) place) [
    | inl e ↦ subst (λ n. is_prefix (prefix_at prefixes n) name ≡ false) (omega (arith, e.1)) (last (omega (arith, e.1)))
    | inr e ↦ early_not_begun prefixes name place k ordered p (omega (arith, s.1, e.1))
  ]
]

pub search_ends : (prefixes : List (List ℕ)) (name : List ℕ) (low high turns : ℕ) → AreOrdered prefixes → IsSearched prefixes name low high turns → high ≤ low → IsPlace prefixes name (Err low)
search_ends prefixes name low high turns ordered s h =
    let same : high ≡ low = omega (arith, h, s.order) in
    let behind : IsPlaceBehind prefixes name low = record {
      within = omega (arith, same, s.within);
      before = s.before;
      behind = λ k l m. s.behind k (omega (arith, same, l)) m;
    } in
    (owner_missing prefixes name low ordered behind s.apart, behind)

-- ---- how many comparisons it takes at least

-- a name that passes a test stands at some place
somewhere : (test : List ℕ → Bool) (prefixes : List (List ℕ)) → list_any test prefixes ≡ true → (k : ℕ) × (k < length prefixes) × (test (prefix_at prefixes k) ≡ true)
somewhere test prefixes h =
    let found = Any-from_list_any test prefixes h in
    (found.0, found.2, ap test (sym (get_or_read_under prefixes found.0 (length prefixes) found.1 [] (sym found.3) found.2 refl)) ∙ found.4)

pub least_found : (prefixes : List (List ℕ)) (name : List ℕ) (place : ℕ) → place < length prefixes → is_prefix (prefix_at prefixes place) name ≡ true → least_comparisons prefixes name ≡ 1
least_found prefixes name place within begun = rw (list_any_at (λ p. is_prefix p name) prefixes place [] within begun) refl

-- by what the three tests say
at_most : (begun lesser greater : Bool) (turns : ℕ) → (begun ≡ true → ⊥) → (lesser ≡ true → 1 ≤ turns) → (greater ≡ true → 1 ≤ turns) → (lesser ≡ true → greater ≡ true → 2 ≤ turns) →
    (if begun then 1 else ((if lesser then 1 else 0) + (if greater then 1 else 0))) ≤ turns
at_most true lesser greater turns none low high both = absurd (none refl)
at_most false true true turns none low high both = both refl refl
at_most false true false turns none low high both = low refl
at_most false false true turns none low high both = high refl
at_most false false false turns none low high both = omega arith

pub least_missing : (prefixes : List (List ℕ)) (name : List ℕ) (low high turns : ℕ) → AreOrdered prefixes → IsSearched prefixes name low high turns → high ≤ low → least_comparisons prefixes name ≤ turns
least_missing prefixes name low high turns ordered s h =
    at_most _ _ _ turns none (λ e. s.raised (front e)) (λ e. s.lowered (rear e)) (λ e f. s.both (front e) (rear f))
  where
    place : IsPlace prefixes name (Err low)
    place = search_ends prefixes name low high turns ordered s h

    none : list_any (λ p. is_prefix p name) prefixes ≡ true → ⊥
    none e =
        let at = somewhere (λ p. is_prefix p name) prefixes e in
        let apart = place.0 at.0 at.1 in
        let is = at.2 in
        cc

    front : list_any (λ p. not (name_lt name p)) prefixes ≡ true → 0 < low
    front e =
        let at = somewhere (λ p. not (name_lt name p)) prefixes e in
        elim (leb_tells 1 low) [
          | inl l ↦ l.1
          | inr l ↦
              let below = place.1.behind at.0 (omega (arith, l.1)) at.1 in
              let is : not true ≡ true = ap not (sym below) ∙ at.2 in
              absurd (cc)
        ]

    rear : list_any (λ p. name_lt name p) prefixes ≡ true → high < length prefixes
    rear e =
        let at = somewhere (λ p. name_lt name p) prefixes e in
        elim (leb_tells (suc high) (length prefixes)) [
          | inl l ↦ l.1
          | inr l ↦
              let above = place.1.before at.0 (omega (arith, l.1, at.1, h)) in
              let is = at.2 in
              absurd (cc)
        ]

-- the first name is greater, or it is not
pub least_some : (prefixes : List (List ℕ)) (name : List ℕ) → 0 < length prefixes → 1 ≤ least_comparisons prefixes name
least_some [] name h = absurd (omega (arith, h))
least_some (prefix ∷ prefixes) name h = by_first (list_any (λ p. is_prefix p name) (prefix ∷ prefixes)) (name_lt name prefix) (list_any (λ p. not (name_lt name p)) prefixes) (list_any (λ p. name_lt name p) prefixes)
  where
    by_first : (begun first lesser greater : Bool) → 1 ≤ (if begun then 1 else ((if not first || lesser then 1 else 0) + (if first || greater then 1 else 0)))
    by_first true first lesser greater = omega arith
    by_first false true true greater = omega arith
    by_first false true false greater = omega arith
    by_first false false lesser true = omega arith
    by_first false false lesser false = omega arith

-- ---- the objects in front of it have nothing behind the name

-- a greater name may follow
follows_lt : (p name : List ℕ) → name_lt name p ≡ true → may_follow name p ≡ true
follows_lt p name h = elim (is_prefix p name) as (λ b. (b || name_lt name p) ≡ true) [ true ↦ refl | false ↦ h ]

pub start_found : (prefixes : List (List ℕ)) (name : List ℕ) (place : ℕ) → AreOrdered prefixes → IsOwnerPlace prefixes name (Some place) → IsStart prefixes name place
start_found prefixes name place ordered h = record {
  within = omega (arith, h.0);
  before = λ k lt. earlier prefixes name place k _ ordered h.0 (omega (arith, lt)) (begun_not_lt (prefix_at prefixes place) name h.1) refl;
  apart = λ k lt. h.2 k (omega (arith, lt, h.0)) (λ e. absurd (omega (arith, e, lt)));
  behind = λ k low within. elim (eqb_tells place k) [
    | inl e ↦
        let begun : is_prefix (prefix_at prefixes k) name ≡ true = subst (λ n. is_prefix (prefix_at prefixes n) name ≡ true) e.1 h.1 in
        rw begun refl
    | inr e ↦ follows_lt (prefix_at prefixes k) name
        (begun_lt (prefix_at prefixes place) (prefix_at prefixes k) name (ordered_at prefixes place k ordered (omega (arith, low, e.1)) within) h.1)
  ];
}

pub start_behind : (prefixes : List (List ℕ)) (name : List ℕ) (place : ℕ) → IsOwnerPlace prefixes name None → IsPlaceBehind prefixes name place → IsStart prefixes name place
start_behind prefixes name place none p = record {
  within = p.within;
  before = p.before;
  apart = λ k lt. none k (omega (arith, lt, p.within));
  behind = λ k low within. follows_lt (prefix_at prefixes k) name (p.behind k low within);
}

-- what the loop keeps
pub record IsCounted (prefixes : List (List ℕ)) (name : List ℕ) (low high before steps : ℕ) : Type 0 where
  pub forward : before ≤ steps
  pub searched : IsSearched prefixes name low high (steps - before)

-- ---- the search of the owner in the definition finds what stands at the place

pub owner_none : (prefixes : List (List ℕ)) (name : List ℕ) → IsOwnerPlace prefixes name None → find (λ p. is_prefix p name) prefixes ≡ None
owner_none [] name h = refl
owner_none (p ∷ prefixes) name h = rw (h 0 (omega arith)) (owner_none prefixes name (λ k l. h (suc k) (omega (arith, l))))

pub owner_some : (prefixes : List (List ℕ)) (name : List ℕ) (place : ℕ) → IsOwnerPlace prefixes name (Some place) → find (λ p. is_prefix p name) prefixes ≡ Some (prefix_at prefixes place)
owner_some [] name place h = absurd (omega (arith, h.0))
owner_some (p ∷ prefixes) name zero h = rw h.1 refl
owner_some (p ∷ prefixes) name (suc place) h =
    rw (h.2 0 (omega arith) (omega arith)) (owner_some prefixes name place (omega (arith, h.0), h.1, λ k l ne. h.2 (suc k) (omega (arith, l)) (omega (arith, ne))))
