-- The value under a name among the instances of several objects: it stands under the object whose
-- name begins the name.
use Rattle.std.proofs.Common.{◌≡◌, ℕ, zero, suc, Bool, true, false, cond, nat_eq, List, [], ◌∷◌, ◌++◌, map, length, drop, find, get_or, refl, ap, ◌∙◌, ◌≤◌, length-append, arith, Option, Some, None, option_map}
use Rattle.std.specs.Option.{option_or}
use Rattle.oid_core.specs.Order.{name_eq, is_prefix}
use Rattle.oid_core.proofs.OrderLaws.{prefix_found}
use Rattle.message_core.specs.declared.binding.Binding.{Binding}
use Rattle.message_core.specs.declared.value.Value.{Value}
use Rattle.message_core.specs.Instances.{value_of}
use Rattle.setphase_core.specs.declared.world.World.{World}
use Rattle.setphase_core.specs.Values.{IndexedValue, value_at}
use Rattle.setphase_core.specs.Columns.{shown_by}
use Rattle.setphase_core.specs.Objects.{ObjectRow}
use Rattle.setphase_core.specs.Registry.{prefixes_of, under, instances_under, instances}
use Rattle.setphase_core.specs.Searching.{IsOwnerPlace}

-- a name that begins another one is no longer
pub begun_fits : (p n : List ℕ) → is_prefix p n ≡ true → length p ≤ length n
begun_fits p n h =
    let begun = prefix_found p n h in
    omega (arith, ap (λ (xs : List ℕ). length xs) begun.parts, length-append p begun.rest)

pub instances-cons : (row : ObjectRow) (rows : List ObjectRow) (w : World) → instances (row ∷ rows) w ≡ instances_under row w ++ instances rows w
unfolding instances
instances-cons row rows w = refl

pub instances-nil : (w : World) → instances [] w ≡ []
unfolding instances
instances-nil w = refl

or-cond : {X : Type 0} (b : Bool) (v : X) (r s : Option X) → cond b (Some v) (option_or r s) ≡ option_or (cond b (Some v) r) s
or-cond true v r s = refl
or-cond false v r s = refl

or-none : {X : Type 0} (r : Option X) → option_or r None ≡ r
or-none None = refl
or-none (Some x) = refl

value_of-append : (n : List ℕ) (xs ys : List Binding) → value_of (xs ++ ys) n ≡ option_or (value_of xs n) (value_of ys n)
value_of-append n [] ys = refl
value_of-append n (x ∷ xs) ys = ap (λ r. cond (name_eq x.name n) (Some x.value) r) (value_of-append n xs ys) ∙ or-cond (name_eq x.name n) x.value _ _

name_eq-prefix : (p e n : List ℕ) → name_eq (p ++ e) n ≡ cond (is_prefix p n) (name_eq e (drop (length p) n)) false
name_eq-prefix [] e n = refl
name_eq-prefix (x ∷ p) e [] = refl
name_eq-prefix (x ∷ p) e (y ∷ n) = elim (nat_eq x y) as (λ b. cond b (name_eq (p ++ e) n) false ≡ cond (cond b (is_prefix p n) false) (name_eq e (drop (length p) n)) false) [
  | true ↦ name_eq-prefix p e n
  | false ↦ refl
]

value_of-under : (p n : List ℕ) (shown : List IndexedValue) → value_of (map (under p) shown) n ≡ cond (is_prefix p n) (value_at shown (drop (length p) n)) None
value_of-under p n [] = elim (is_prefix p n) as (λ b. ◌≡◌ {A = Option Value} None (cond b None None)) [ true ↦ refl | false ↦ refl ]
value_of-under p n (s ∷ shown) =
    ap (λ b. cond b (Some s.value) (value_of (map (under p) shown) n)) (name_eq-prefix p s.index n)
    ∙ ap (λ r. cond (cond (is_prefix p n) (name_eq s.index (drop (length p) n)) false) (Some s.value) r) (value_of-under p n shown)
    ∙ split (is_prefix p n) (name_eq s.index (drop (length p) n)) (find (λ t. name_eq t.index (drop (length p) n)) shown)
  where
    split : (a b : Bool) (x : Option IndexedValue) → cond (cond a b false) (Some s.value) (cond a (option_map (λ t. t.value) x) None) ≡ cond a (option_map (λ t. t.value) (cond b (Some s) x)) None
    split true true x = refl
    split true false x = refl
    split false b x = refl

pub value_under : (row : ObjectRow) (w : World) (n : List ℕ) → is_prefix row.prefix n ≡ true →
    value_of (instances_under row w) n ≡ value_at (shown_by row.column w) (drop (length row.prefix) n)
value_under row w n h = value_of-under row.prefix n (shown_by row.column w) ∙ ap (λ b. cond b (value_at (shown_by row.column w) (drop (length row.prefix) n)) None) h

pub value_not_under : (row : ObjectRow) (w : World) (n : List ℕ) → is_prefix row.prefix n ≡ false → value_of (instances_under row w) n ≡ None
value_not_under row w n h = value_of-under row.prefix n (shown_by row.column w) ∙ ap (λ b. cond b (value_at (shown_by row.column w) (drop (length row.prefix) n)) None) h

pub value_nowhere : (rows : List ObjectRow) (w : World) (n : List ℕ) → IsOwnerPlace (prefixes_of rows) n None → value_of (instances rows w) n ≡ None
value_nowhere [] w n h = ap (λ xs. value_of xs n) (instances-nil w)
value_nowhere (row ∷ rows) w n h =
    ap (λ xs. value_of xs n) (instances-cons row rows w)
    ∙ value_of-append n (instances_under row w) (instances rows w)
    ∙ ap (λ r. option_or r (value_of (instances rows w) n)) (value_not_under row w n (h 0 (omega arith)))
    ∙ value_nowhere rows w n (λ k l. h (suc k) (omega (arith, l)))

-- the value stands under the object at the place
pub value_there : (rows : List ObjectRow) (w : World) (n : List ℕ) (i : ℕ) (d : ObjectRow) → IsOwnerPlace (prefixes_of rows) n (Some i) →
    value_of (instances rows w) n ≡ value_of (instances_under (get_or rows i d) w) n
value_there [] w n i d h = absurd (omega (arith, h.0))
value_there (row ∷ rows) w n zero d h =
    ap (λ xs. value_of xs n) (instances-cons row rows w)
    ∙ value_of-append n (instances_under row w) (instances rows w)
    ∙ ap (option_or (value_of (instances_under row w) n)) (value_nowhere rows w n (λ k l. h.2 (suc k) (omega (arith, l)) (omega arith)))
    ∙ or-none (value_of (instances_under row w) n)
value_there (row ∷ rows) w n (suc i) d h =
    ap (λ xs. value_of xs n) (instances-cons row rows w)
    ∙ value_of-append n (instances_under row w) (instances rows w)
    ∙ ap (λ r. option_or r (value_of (instances rows w) n)) (value_not_under row w n (h.2 0 (omega arith) (omega arith)))
    ∙ value_there rows w n i d (omega (arith, h.0), h.1, λ k l ne. h.2 (suc k) (omega (arith, l)) (omega (arith, ne)))
