-- Where a name stands among the names of objects.
use Rattle.std.specs.Prelude.{◌≡◌, ◌≢◌, ℕ, ◌+◌, ◌<◌, ◌≤◌, Bool, not, ◌||◌, true, false, if◌then◌else◌, List, [], length, slice_index_or, Option, Some, None, Result, Ok, Err}
use Rattle.std.specs.List.{list_any}
use Rattle.std.specs.declared.cmp.Ordering.{Ordering}
use Rattle.std.specs.declared.cmp.Ordering.TheVariants.{Less, Equal, Greater}
use Rattle.oid_core.specs.Order.{name_lt, is_prefix}

-- The name at a place.
abbrev pub prefix_at : List (List ℕ) → ℕ → List ℕ
prefix_at prefixes place = slice_index_or prefixes place []

-- An object may have an instance after a name where its own name begins that one, or is greater.
abbrev pub may_follow : List ℕ → List ℕ → Bool
may_follow name prefix = is_prefix prefix name || name_lt name prefix

-- How an object's name stands to a name: it begins it, or is greater, or is less and does not begin
-- it.
abbrev pub IsSide : List ℕ → List ℕ → Ordering → Type 0
IsSide prefix name Less = (name_lt name prefix ≡ false) × (is_prefix prefix name ≡ false)
IsSide prefix name Equal = is_prefix prefix name ≡ true
IsSide prefix name Greater = name_lt name prefix ≡ true

-- The names in front of the place are not greater than the name, and those from there on are.
pub record IsPlaceBehind (prefixes : List (List ℕ)) (name : List ℕ) (place : ℕ) : Type 0 where
  pub within : place ≤ length prefixes
  pub before : (k : ℕ) → k < place → name_lt name (prefix_at prefixes k) ≡ false
  pub behind : (k : ℕ) → place ≤ k → k < length prefixes
      → name_lt name (prefix_at prefixes k) ≡ true

-- The name at the place begins the name, and no other one does; or none does.
abbrev pub IsOwnerPlace : List (List ℕ) → List ℕ → Option ℕ → Type 0
IsOwnerPlace prefixes name (Some place) =
    (place < length prefixes) × (is_prefix (prefix_at prefixes place) name ≡ true)
    × ((k : ℕ) → k < length prefixes → k ≢ place → is_prefix (prefix_at prefixes k) name ≡ false)
IsOwnerPlace prefixes name None =
    (k : ℕ) → k < length prefixes → is_prefix (prefix_at prefixes k) name ≡ false

-- The place of the name that begins a name, or, where none does, the one behind the lesser names.
abbrev pub IsPlace : List (List ℕ) → List ℕ → Result ℕ ℕ → Type 0
IsPlace prefixes name (Ok place) = IsOwnerPlace prefixes name (Some place)
IsPlace prefixes name (Err place) =
    IsOwnerPlace prefixes name None × IsPlaceBehind prefixes name place

-- The names from a place on and in front of an end begin with a front, and the one at the end, if
-- there is one, does not.
pub record AreBegun (prefixes : List (List ℕ)) (front : List ℕ) (place end : ℕ) : Type 0 where
  pub after : place ≤ end
  pub within : end ≤ length prefixes
  pub begun : (k : ℕ) → place ≤ k → k < end → is_prefix front (prefix_at prefixes k) ≡ true
  pub ended : end < length prefixes → is_prefix front (prefix_at prefixes end) ≡ false

-- The comparisons with objects' names without which the object of a name cannot be known: one with
-- the name that begins it; or, where none does, one with a name that is not greater, and one with a
-- greater name, where there are such.
abbrev pub least_comparisons : List (List ℕ) → List ℕ → ℕ
least_comparisons prefixes name =
    if list_any (λ prefix. is_prefix prefix name) prefixes then 1
    else ((if list_any (λ prefix. not (name_lt name prefix)) prefixes then 1 else 0)
    + (if list_any (λ prefix. name_lt name prefix) prefixes then 1 else 0))
