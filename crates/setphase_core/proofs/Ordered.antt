-- Names of objects that rise and do not begin one another: from neighbours to any two.
use Rattle.std.proofs.Common.{◌≡◌, ℕ, zero, suc, ◌<◌, Bool, true, false, cond, List, [], ◌∷◌, length, nat_eq, refl, arith, Option, Some, None, IsTrue, inl, inr}
use Rattle.std.specs.List.{AllByRecursion}
use Rattle.oid_core.specs.Order.{name_lt, is_prefix}
use Rattle.setphase_core.specs.declared.registry.RegistryFault.TheVariants.{Unsorted, Nested}
use Rattle.setphase_core.specs.Objects.{ObjectRow}
use Rattle.setphase_core.specs.Registry.{prefixes_of, first_fault, is_apart, AreApart}
use Rattle.setphase_core.specs.Searching.{prefix_at}
use Rattle.setphase_core.proofs.Below.{is_below, below_from, below_then, below_decides, eq_back, eq_back_same}
use Rattle.std.proofs.lemmas.List.Kept.{AllPairs-cons}
use Rattle.std.proofs.lemmas.List.Elements.{All-from_recursion}

-- each is below all later ones
abbrev pub AreOrdered : List (List ℕ) → Type 0
AreOrdered [] = Unit {0}
AreOrdered (p ∷ ps) = AllByRecursion (λ q. is_below p q ≡ true) ps × AreOrdered ps

none_of : {X : Type 0} (b : Bool) (x : X) (rest : Option X) → cond b (Some x) rest ≡ None → (b ≡ false) × (rest ≡ None)
none_of true x rest e = absurd (cc)
none_of false x rest e = (refl, e)

all_above : (p q : List ℕ) (ps : List (List ℕ)) → is_below p q ≡ true → AllByRecursion (λ r. is_below q r ≡ true) ps → AllByRecursion (λ r. is_below p r ≡ true) ps
all_above p q [] h k = tt
all_above p q (r ∷ ps) h k = (below_then p q r h k.0, all_above p q ps h k.1)

pub ordered_from : (rows : List ObjectRow) → first_fault rows ≡ None → AreOrdered (prefixes_of rows)
ordered_from [] e = tt
ordered_from (row ∷ []) e = (tt, tt)
ordered_from (row ∷ next ∷ rows) e =
    let a = none_of (name_lt next.prefix row.prefix) Unsorted (cond (is_prefix row.prefix next.prefix) (Some Nested) (first_fault (next ∷ rows))) e in
    let b = none_of (is_prefix row.prefix next.prefix) Nested (first_fault (next ∷ rows)) a.1 in
    let below : is_below row.prefix next.prefix ≡ true = below_from row.prefix next.prefix a.0 b.0 in
    let others : AreOrdered (prefixes_of (next ∷ rows)) = ordered_from (next ∷ rows) b.1 in
    ((below, all_above row.prefix next.prefix (prefixes_of rows) below others.0), others)

-- ---- none begins another

pub below_apart : (p q : List ℕ) → is_below p q ≡ true → is_apart p q ≡ true
below_apart [] q h = absurd (cc)
below_apart (x ∷ p) [] h = absurd (cc)
below_apart (x ∷ p) (y ∷ q) h = elim (below_decides x y p q h) [
  | inl l ↦ let eq : nat_eq y x ≡ false = eq_back x y l in rw (l.eq, eq) refl
  | inr s ↦ let eq : nat_eq y x ≡ true = eq_back_same x y s.0 in rw (s.0.eq, eq) (below_apart p q s.1)
]

apart_all : (p : List ℕ) (ps : List (List ℕ)) → AllByRecursion (λ q. is_below p q ≡ true) ps → AllByRecursion (λ q. is_apart p q ≡ true) ps
apart_all p [] h = tt
apart_all p (q ∷ ps) h = (below_apart p q h.0, apart_all p ps h.1)

ordered_apart : (ps : List (List ℕ)) → AreOrdered ps → AreApart ps
ordered_apart [] h = λ i j d lt within. absurd (omega (arith, within))
ordered_apart (p ∷ ps) h = AllPairs-cons (λ (a b : List ℕ). IsTrue (is_apart a b)) p ps (All-from_recursion (λ q. is_apart p q ≡ true) ps (apart_all p ps h.0)) (ordered_apart ps h.1)

pub names_apart : (rows : List ObjectRow) → first_fault rows ≡ None → AreApart (prefixes_of rows)
names_apart rows e = ordered_apart (prefixes_of rows) (ordered_from rows e)

-- ---- places

below_at : (p : List ℕ) (ps : List (List ℕ)) (k : ℕ) → AllByRecursion (λ q. is_below p q ≡ true) ps → k < length ps → is_below p (prefix_at ps k) ≡ true
below_at p [] k h lt = absurd (omega arith)
below_at p (q ∷ ps) zero h lt = h.0
below_at p (q ∷ ps) (suc k) h lt = below_at p ps k h.1 (omega arith)

-- any two
pub ordered_at : (ps : List (List ℕ)) (i j : ℕ) → AreOrdered ps → i < j → j < length ps → is_below (prefix_at ps i) (prefix_at ps j) ≡ true
ordered_at [] i j h lt within = absurd (omega arith)
ordered_at (p ∷ ps) i zero h lt within = absurd (omega arith)
ordered_at (p ∷ ps) zero (suc j) h lt within = below_at p ps j h.0 (omega arith)
ordered_at (p ∷ ps) (suc i) (suc j) h lt within = ordered_at ps i j h.1 (omega arith) (omega arith)
