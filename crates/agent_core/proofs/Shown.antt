-- Objects that a view shows whole, at and behind the place where a walk stands.
use Rattle.std.proofs.Common.{◌≡◌, ℕ, ◌≤◌, ◌<◌, max, inl, inr, arith, Bool, true, false, List, ◌++◌, length, take, refl, sym, ap, subst, ◌∙◌, append_assoc, Option, Some, None, Ok, IfSome, option_map}
use Rattle.std.specs.Prelude.{if◌then◌else◌}
use Rattle.std.proofs.lemmas.Bool.{false≢true, cases_lt}
use Rattle.oid_core.specs.Order.{is_prefix}
use Rattle.oid_core.proofs.OrderLaws.{prefix_found, prefix_only}
use Rattle.oid_core.proofs.Prefixes.{prefix_itself}
use Rattle.vacm_core.specs.declared.tables.FamilyRow.{FamilyRow}
use Rattle.vacm_core.specs.Families.{in_view}
use Rattle.vacm_core.specs.Hiding.{hides_all}
use Rattle.vacm_core.proofs.HiddenNames.{hidden}
use Rattle.setphase_core.specs.Searching.{prefix_at, AreBegun}
use Rattle.setphase_core.specs.Walking.{first_place, AreOpen}
use Rattle.agent_core.specs.declared.source.Stand.{Stand}
use Rattle.agent_core.specs.Standing.{IsStand}

-- a name that begins another one begins all that this begins
prefix_then : (a b c : List ℕ) → is_prefix a b ≡ true → is_prefix b c ≡ true → is_prefix a c ≡ true
prefix_then a b c h k =
    let first = prefix_found a b h in
    let second = prefix_found b c k in
    prefix_only a c (record {
      rest = first.rest ++ second.rest;
      parts = second.parts ∙ ap (λ (xs : List ℕ). xs ++ second.rest) first.parts ∙ append_assoc a first.rest second.rest;
    })

module _ (families : List FamilyRow) (view : List ℕ) where
  -- an object that is shown whole is not seen to be hidden
  pub not_hidden : (prefix : List ℕ) → ((other : List ℕ) → is_prefix prefix other ≡ true → in_view families view other ≡ true) → hides_all families view prefix ≡ false
  not_hidden prefix h = decided (hides_all families view prefix) refl
    where
      decided : (b : Bool) → hides_all families view prefix ≡ b → hides_all families view prefix ≡ false
      decided true e = absurd (false≢true (sym (hidden families view prefix prefix (prefix_itself prefix) e) ∙ h prefix (prefix_itself prefix)))
      decided false e = e

-- objects that are open up to two places are open up to the greater
pub open_further : (passes : List ℕ → Bool) (prefixes : List (List ℕ)) (start a b : ℕ) → AreOpen passes prefixes start a → AreOpen passes prefixes start b → AreOpen passes prefixes start (max a b)
open_further passes prefixes start a b first second k l m n = elim (cases_lt k a) [
  | inl less ↦ first k l less n
  | inr le ↦ second k l (omega (arith, m, le)) n
]

-- the objects whose names begin with a front of which each name is shown are shown whole
pub open_stand : (shows passes : List ℕ → Bool) (prefixes : List (List ℕ)) (stand : Stand) (name front : List ℕ) (place end later : ℕ) (asked : Option ℕ) →
    ((prefix : List ℕ) → ((other : List ℕ) → is_prefix prefix other ≡ true → shows other ≡ true) → passes prefix ≡ false) →
    IsStand shows passes prefixes stand name → stand.place ≡ Ok place → AreBegun prefixes front place end →
    later ≡ max stand.open_until end → ((other : List ℕ) → is_prefix front other ≡ true → shows other ≡ true) → IsStand shows passes prefixes (record stand { until = end; open_until = later; asked = asked }) name
open_stand shows passes prefixes stand name front place end later asked unhidden h at begun is all = record {
  place = h.place;
  until = whole;
  kept = subst (λ n. AreOpen passes prefixes (first_place stand.place) n) (sym is)
      (open_further passes prefixes (first_place stand.place) stand.open_until end h.kept (λ k l m n. unhidden (prefix_at prefixes k) (whole k l m n)));
}
  where
    whole : (k : ℕ) → first_place stand.place ≤ k → k < end → k < length prefixes → (other : List ℕ) → is_prefix (prefix_at prefixes k) other ≡ true → shows other ≡ true
    whole k l m n other begins = all other (prefix_then front (prefix_at prefixes k) other (begun.begun k (subst (λ p. first_place p ≤ k) at l) m) begins)

-- what the answer on a name says of its front
pub front_shown : (shows : List ℕ → Bool) (name front : List ℕ) (o : Option ℕ) (included : Bool) → Some front ≡ (if included then option_map (λ k. take k name) o else None) →
    IfSome o (λ k. (k ≤ length name) × (included ≡ true → (other : List ℕ) → is_prefix (take k name) other ≡ true → shows other ≡ true)) →
    (other : List ℕ) → is_prefix front other ≡ true → shows other ≡ true
front_shown shows name front (Some k) true e h other begins =
    let same : front ≡ take k name = cc in
    h.1 refl other (ap (λ (f : List ℕ). is_prefix f other) (sym same) ∙ begins)
front_shown shows name front None true e h other begins = absurd (cc)
front_shown shows name front (Some k) false e h other begins = absurd (cc)
front_shown shows name front None false e h other begins = absurd (cc)
