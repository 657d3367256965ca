-- Neighbours that are at fault, or not, among the objects from a place on.
use Rattle.std.proofs.Common.{◌≡◌, ℕ, zero, suc, ◌+◌, ◌-◌, ◌<◌, ◌≤◌, true, false, List, [], ◌∷◌, map, length, drop, get_or, refl, sym, ap, ◌∙◌, arith, Option, Some, None}
use Rattle.oid_core.specs.Order.{name_lt, is_prefix}
use Rattle.setphase_core.specs.declared.registry.RegistryFault.{RegistryFault}
use Rattle.setphase_core.specs.declared.registry.RegistryFault.TheVariants.{Unsorted, Nested}
use Rattle.setphase_core.specs.Objects.{ObjectRow, ObjectState}
use Rattle.setphase_core.specs.Registry.{rows_of, first_fault}
use Rattle.setphase_core.proofs.Places.{rows_split}

unsorted_first : (row next : ObjectRow) (rows : List ObjectRow) → name_lt next.prefix row.prefix ≡ true → first_fault (row ∷ next ∷ rows) ≡ Some Unsorted
unsorted_first row next rows h = rw h refl

nested_first : (row next : ObjectRow) (rows : List ObjectRow) → name_lt next.prefix row.prefix ≡ false → is_prefix row.prefix next.prefix ≡ true → first_fault (row ∷ next ∷ rows) ≡ Some Nested
nested_first row next rows h k = rw (h, k) refl

right_first : (row next : ObjectRow) (rows : List ObjectRow) → name_lt next.prefix row.prefix ≡ false → is_prefix row.prefix next.prefix ≡ false → first_fault (row ∷ next ∷ rows) ≡ first_fault (next ∷ rows)
right_first row next rows h k = rw (h, k) refl

module _ {O : Type 0} (state : O → ObjectState) where
  -- the first fault among the objects from a place on
  abbrev pub fault_from : List O → ℕ → Option RegistryFault
  fault_from objects k = first_fault (rows_of (map state (drop k objects)))

  -- an object, its neighbour, and those behind
  module _ (objects : List O) (place : ℕ) (x y : O) (least : 1 ≤ place) (within : place < length objects) (here : x ≡ get_or objects (place - 1) x) (there : y ≡ get_or objects place y) where
    pair : rows_of (map state (drop (place - 1) objects)) ≡ (state x).row ∷ (state y).row ∷ rows_of (map state (drop (place + 1) objects))
    pair =
        let next : place - 1 + 1 ≡ place = omega (arith, least) in
        rows_split state objects (place - 1) x (omega (arith, within)) here
        ∙ ap (λ (k : ℕ). (state x).row ∷ rows_of (map state (drop k objects))) next
        ∙ ap (λ (rows : List ObjectRow). (state x).row ∷ rows) (rows_split state objects place y within there)

    pub unsorted_here : name_lt (state y).row.prefix (state x).row.prefix ≡ true → fault_from objects (place - 1) ≡ Some Unsorted
    unsorted_here h = ap first_fault pair ∙ unsorted_first (state x).row (state y).row _ h

    pub nested_here : name_lt (state y).row.prefix (state x).row.prefix ≡ false → is_prefix (state x).row.prefix (state y).row.prefix ≡ true → fault_from objects (place - 1) ≡ Some Nested
    nested_here h k = ap first_fault pair ∙ nested_first (state x).row (state y).row _ h k

    pub right_here : name_lt (state y).row.prefix (state x).row.prefix ≡ false → is_prefix (state x).row.prefix (state y).row.prefix ≡ false → fault_from objects (place + 1 - 1) ≡ fault_from objects (place - 1)
    right_here h k =
        let back : place + 1 - 1 ≡ place = omega arith in
        ap (fault_from objects) back
        ∙ ap first_fault (rows_split state objects place y within there)
        ∙ sym (ap first_fault pair ∙ right_first (state x).row (state y).row _ h k)

  -- the last object has no neighbour, and where there is no object there is none at fault
  pub none_left : (objects : List O) (place : ℕ) → 1 ≤ place → length objects ≤ place → fault_from objects (place - 1) ≡ None
  none_left objects place least most = pick objects (place - 1) (omega (arith, least, most))
    where
      pick : (objects : List O) (k : ℕ) → length objects ≤ k + 1 → fault_from objects k ≡ None
      pick [] zero h = refl
      pick [] (suc k) h = refl
      pick (x ∷ []) zero h = refl
      pick (x ∷ y ∷ objects) zero h = absurd (omega (arith, h))
      pick (x ∷ objects) (suc k) h = pick objects k (omega (arith, h))
