-- What contracts see of a list of objects: their rows in order, and the instances that they show
-- together.
use Rattle.std.specs.Prelude.{ℕ, ◌+◌, ◌≤◌, Bool, not, ◌&&◌, if◌then◌else◌, IsTrue, AllPairs, List, [], ◌∷◌, ◌++◌, map, length, find, Option, Some, None, IfSome}
use Rattle.std.specs.List.{AllByRecursion, flat_map}
use Rattle.fdb_core.specs.Rows.{IsRising as AreRising}
use Rattle.fdb_core.specs.Statics.{IsRising as AreRisingStatics}
use Rattle.oid_core.specs.Order.{name_lt, is_prefix}
use Rattle.oid_core.specs.declared.limits.TheConstants.{INLINE_NUMBERS, MAX_NUMBERS}
use Rattle.vacm_core.specs.declared.limits.TheConstants.{MAX_FAMILY}
use Rattle.vacm_core.specs.Rows.{same_family}
use Rattle.vacm_core.specs.Tables.{KeysDiffer}
use Rattle.message_core.specs.declared.binding.Binding.{Binding}
use Rattle.setphase_core.specs.declared.world.World.{World}
use Rattle.setphase_core.specs.declared.registry.RegistryFault.{RegistryFault}
use Rattle.setphase_core.specs.declared.registry.RegistryFault.TheVariants.{Unsorted, Nested}
use Rattle.setphase_core.specs.declared.limits.TheConstants.{MAX_INDEX}
use Rattle.setphase_core.specs.Values.{IndexedValue}
use Rattle.setphase_core.specs.Columns.{shown_by, longest_index}
use Rattle.setphase_core.specs.Objects.{ObjectRow, ObjectState}

-- The rows of objects, which no call changes, and their names.
abbrev pub rows_of : List ObjectState → List ObjectRow
rows_of objects = map (λ o. o.row) objects

abbrev pub prefixes_of : List ObjectRow → List (List ℕ)
prefixes_of rows = map (λ row. row.prefix) rows

-- What is wrong with the first pair of neighbours of which the first name is greater than the
-- second, or begins it.
abbrev pub first_fault : List ObjectRow → Option RegistryFault
first_fault [] = None
first_fault (row ∷ []) = None
first_fault (row ∷ next ∷ rows) =
    if name_lt next.prefix row.prefix then Some Unsorted
    else (if is_prefix row.prefix next.prefix then Some Nested
    else first_fault (next ∷ rows))

-- Neither name begins the other.
abbrev pub is_apart : List ℕ → List ℕ → Bool
is_apart a b = not (is_prefix a b) && not (is_prefix b a)

-- No name begins another.
abbrev pub AreApart : List (List ℕ) → Type 0
AreApart names = AllPairs (λ a b. IsTrue (is_apart a b)) names

-- The name of an object stands under 1.3, and with the longest index of its column it is a name.
pub record IsNamed (row : ObjectRow) : Type 0 where
  pub root : IsTrue (is_prefix (1 ∷ 3 ∷ []) row.prefix)
  pub most : length row.prefix + longest_index row.column ≤ MAX_NUMBERS

abbrev pub AreNamed : List ObjectRow → Type 0
AreNamed rows = AllByRecursion IsNamed rows

-- A name stands under 1.3, and with the longest index of all columns it is a name.
pub record TakesAnyIndex (prefix : List ℕ) : Type 0 where
  pub root : IsTrue (is_prefix (1 ∷ 3 ∷ []) prefix)
  pub most : length prefix + MAX_INDEX ≤ MAX_NUMBERS

abbrev pub TakeAnyIndex : List (List ℕ) → Type 0
TakeAnyIndex prefixes = AllByRecursion TakesAnyIndex prefixes

-- The name of the object whose name begins a name.
abbrev pub owner_of : List ObjectRow → List ℕ → Option (List ℕ)
owner_of rows name = find (λ prefix. is_prefix prefix name) (prefixes_of rows)

-- The instances of one object under their whole names.
abbrev pub under : List ℕ → IndexedValue → Binding
under prefix s = record { name = prefix ++ s.index; value = s.value }

abbrev pub instances_under : ObjectRow → World → List Binding
instances_under row w = map (under row.prefix) (shown_by row.column w)

-- All instances that the objects show of a world.
unfoldable pub instances : List ObjectRow → World → List Binding
instances rows w = flat_map (λ row. instances_under row w) rows

-- What holds of every world that is kept: the learned rows of its bridge are by rising address, its
-- static rows by rising index, and of the families of its policy no two have one key, and each has
-- an index of at most MAX_INDEX numbers.
pub record IsKept (w : World) : Type 0 where
  pub learned : AreRising w.bridge.learned
  pub statics : AreRisingStatics w.bridge.statics.rows
  pub families : KeysDiffer same_family w.policy.vacm.families
  pub short : AllByRecursion (λ row. length row.view + length row.subtree ≤ MAX_FAMILY)
      w.policy.vacm.families

-- The instance that is found, if one is, has a name that takes no memory.
abbrev pub HasShortName : Option Binding → Type 0
HasShortName found = IfSome found (λ b. length b.name ≤ INLINE_NUMBERS)

-- How many slots the objects have reserved.
abbrev pub held_count : List ObjectState → ℕ
held_count [] = 0
held_count (o ∷ os) = length o.reserved + held_count os
