-- What a walk over objects finds behind a name, and the steps that it takes.
use Rattle.std.specs.Prelude.{◌≡◌, ℕ, ◌+◌, ◌<◌, ◌≤◌, Bool, true, false, List, ◌++◌, length, drop, get_or, slice_get, unwrap_or, Option, Some, None, IsSome, Result, Ok, Err}
use Rattle.std.specs.List.{count_by}
use Rattle.std.specs.Option.{option_map, option_and_then}
use Rattle.oid_core.specs.Order.{name_lt, is_prefix}
use Rattle.oid_core.specs.declared.limits.TheConstants.{MAX_NUMBERS}
use Rattle.message_core.specs.declared.binding.Binding.{Binding}
use Rattle.message_core.specs.declared.value.Value.{Value}
use Rattle.message_core.specs.declared.value.Value.TheVariants.{NoSuchInstance}
use Rattle.message_core.specs.Instances.{next_of}
use Rattle.setphase_core.specs.declared.world.World.{World}
use Rattle.setphase_core.specs.declared.passing.Spot.{Spot}
use Rattle.setphase_core.specs.Objects.{ObjectRow}
use Rattle.setphase_core.specs.Values.{value_at}
use Rattle.setphase_core.specs.Columns.{shown_by, longest_index}
use Rattle.setphase_core.specs.Registry.{prefixes_of, first_fault, instances_under}
use Rattle.setphase_core.specs.Passing.{open_instances, passed_ahead}
use Rattle.setphase_core.specs.Searching.{prefix_at}

-- The names from a place on are greater than a name, and none of them begins it.
abbrev pub AreAhead : List (List ℕ) → List ℕ → ℕ → Type 0
AreAhead prefixes name start =
    (k : ℕ) → start ≤ k → k < length prefixes →
    (is_prefix (prefix_at prefixes k) name ≡ false) × (name_lt name (prefix_at prefixes k) ≡ true)

-- The place of the first object that may have an instance behind a name, by the place of the name.
abbrev pub first_place : Result ℕ ℕ → ℕ
first_place (Ok place) = place
first_place (Err place) = place

-- The objects from a place on and in front of another one are not passed over.
abbrev pub AreOpen : (List ℕ → Bool) → List (List ℕ) → ℕ → ℕ → Type 0
AreOpen passes prefixes start end =
    (k : ℕ) → start ≤ k → k < end → k < length prefixes →
    passes (prefix_at prefixes k) ≡ false

-- A walk over objects all of which may have an instance behind a name takes a step for each that is
-- passed over in front of what is found, or of the end.
abbrev pub IsWalk : (List ℕ → Bool) → List ObjectRow → World → List ℕ → ℕ → ℕ → Type 0
IsWalk passes rows w name old new =
    new + passed_ahead passes rows (next_of (open_instances passes rows w) name)
    ≡ old + count_by (λ row. passes row.prefix) rows

-- A walk over objects has reached those that are left: what these show is what all show, and their
-- steps complete those of all.
pub record IsWalked (passes : List ℕ → Bool) (rows left : List ObjectRow) (w : World)
    (name : List ℕ) (old now : ℕ) : Type 0 where
  pub found : next_of (open_instances passes left w) name
      ≡ next_of (open_instances passes rows w) name
  pub work : (new : ℕ) → (first_fault left ≡ None → IsWalk passes left w name now new)
      → first_fault rows ≡ None → IsWalk passes rows w name old new

-- The first instance behind a name, of the objects from a place on that are not passed over, is one
-- of this object and has this index.
pub record IsSpot (passes : List ℕ → Bool) (rows : List ObjectRow) (w : World) (name : List ℕ)
    (start : ℕ) (spot : Spot) : Type 0 where
  pub row : ObjectRow
  pub after : start ≤ spot.place
  pub within : spot.place < length rows
  pub at : get_or rows spot.place row ≡ row
  pub kept : passes row.prefix ≡ false
  pub index : Some (row.prefix ++ spot.index.items)
      ≡ option_map (λ b. b.name) (next_of (instances_under row w) name)
  pub fits : length spot.index.items ≤ longest_index row.column
  pub first : next_of (open_instances passes (drop start rows) w) name
      ≡ next_of (instances_under row w) name

-- The first such instance stands at the spot, or there is none.
abbrev pub IsFound : (List ℕ → Bool) → List ObjectRow → World → List ℕ → ℕ → Option Spot → Type 0
IsFound passes rows w name start None =
    next_of (open_instances passes (drop start rows) w) name ≡ None
IsFound passes rows w name start (Some spot) = IsSpot passes rows w name start spot

-- The object at a place has the first such instance; or the walk goes on behind it.
abbrev pub IsPassedOrFound : (List ℕ → Bool) → List ObjectRow → World → List ℕ → ℕ → ℕ → ℕ →
    Option Spot → Type 0
IsPassedOrFound passes rows w name place old new None =
    IsWalked passes (drop place rows) (drop (place + 1) rows) w name old new
IsPassedOrFound passes rows w name place old new (Some spot) =
    IsSpot passes rows w name place spot
    × (first_fault (drop place rows) ≡ None → IsWalk passes (drop place rows) w name old new)

-- The value at a spot, where an instance stands there.
abbrev pub value_there : List ObjectRow → World → Spot → Option Value
value_there rows w spot = option_and_then (λ row. value_at (shown_by row.column w) spot.index.items)
    (slice_get rows spot.place)

-- An instance stands there: it has a name, and a value.
pub record IsThere (rows : List ObjectRow) (w : World) (spot : Spot) : Type 0 where
  pub within : spot.place < length rows
  pub fits : length (prefix_at (prefixes_of rows) spot.place ++ spot.index.items) ≤ MAX_NUMBERS
  pub value : IsSome (value_there rows w spot)

-- The instance at a spot: its name is the object's name and the index. Where none stands there, its
-- value is that there is none.
abbrev pub instance_at : List ObjectRow → World → Spot → Binding
instance_at rows w spot = record {
  name = prefix_at (prefixes_of rows) spot.place ++ spot.index.items;
  value = unwrap_or (value_there rows w spot) NoSuchInstance;
}
