-- Counts over traces, one item and one line more.
use Rattle.std.proofs.Common.{◌≡◌, ◌∙◌, ℕ, ◌+◌, List, [], ◌∷◌, ◌++◌, refl, ap, arith}
use Rattle.std.specs.Prelude.{Option, Some, None, min}
use Rattle.std.proofs.lemmas.Int.{ints, clamps}
use Rattle.wire_core.specs.declared.wire.WireFault.{WireFault}
use Rattle.live_agent.specs.declared.trace.Item.{Item}
use Rattle.live_agent.specs.declared.trace.Item.TheVariants as item
use Rattle.live_agent.specs.declared.trace.Ran.{Ran}
use Rattle.live_run.specs.Reports.{refused_in, refused_by, count_up_to_max, fault_at, first_of, first_fault}

pub refused_in-append : (xs ys : List Item) → refused_in (xs ++ ys) ≡ refused_in xs + refused_in ys
refused_in-append [] ys = omega arith
refused_in-append (item.Refused c ∷ xs) ys = omega (arith, refused_in-append xs ys)
refused_in-append (item.Entered r ∷ xs) ys = refused_in-append xs ys
refused_in-append (item.Short ∷ xs) ys = refused_in-append xs ys
refused_in-append (item.Full ∷ xs) ys = refused_in-append xs ys

pub refused_by-snoc : (rs : List Ran) (r : Ran) → refused_by (rs ++ r ∷ []) ≡ refused_by rs + refused_in r.trace
refused_by-snoc [] r = omega arith
refused_by-snoc (x ∷ rs) r = omega (arith, refused_by-snoc rs r)

-- a count that has stopped stays
pub count_up_to_max-more : (count n m later : ℕ) → count ≡ count_up_to_max n → later ≡ min (count + m) 18446744073709551615 → later ≡ count_up_to_max (n + m)
count_up_to_max-more count n m later is next = omega (arith, ints, clamps, is, next)

pub count_up_to_max-twice : (count n m k later : ℕ) → count ≡ count_up_to_max n → k ≡ count_up_to_max m → later ≡ min (count + k) 18446744073709551615 → later ≡ count_up_to_max (n + m)
count_up_to_max-twice count n m k later is one next = omega (arith, ints, clamps, is, one, next)

pub first_of-none : (o : Option WireFault) → first_of o None ≡ o
first_of-none (Some c) = refl
first_of-none None = refl

pub first_of-assoc : (o p q : Option WireFault) → first_of o (first_of p q) ≡ first_of (first_of o p) q
first_of-assoc (Some c) p q = refl
first_of-assoc None p q = refl

pub first_fault-append : (xs ys : List Ran) → first_fault (xs ++ ys) ≡ first_of (first_fault xs) (first_fault ys)
first_fault-append [] ys = refl
first_fault-append (x ∷ xs) ys = ap (first_of (fault_at x.end)) (first_fault-append xs ys) ∙ first_of-assoc (fault_at x.end) (first_fault xs) (first_fault ys)

pub none_of : {X : Type 0} (o : Option X) → ((x : X) → o ≡ Some x → ⊥) → o ≡ None
none_of (Some x) never = absurd (never x refl)
none_of None never = refl
