-- How often a source is asked for its next instance, to find what a view shows; and for which long
-- names that takes memory.
use Rattle.std.specs.Prelude.{◌≡◌, ℕ, ◌+◌, ◌<◌, Bool, false, not, List, length, count_by, Contains, IsTrue, Some, None}
use Rattle.oid_core.specs.Order.{name_lt}
use Rattle.oid_core.specs.declared.limits.TheConstants.{INLINE_NUMBERS}
use Rattle.message_core.specs.Instances.{next_of}
use Rattle.message_core.specs.declared.binding.Binding.{Binding}
use Rattle.agent_core.specs.Reading.{visible}

-- how many instances a view hides
abbrev pub hidden_count : (List ℕ → Bool) → List Binding → ℕ
hidden_count shows rows = count_by (λ row. not (shows row.name)) rows

-- The most lookups that one successor in the view takes: one for each instance that the view hides,
-- and one more.
unfoldable pub most_lookups : (List ℕ → Bool) → List Binding → ℕ
most_lookups shows rows = hidden_count shows rows + 1

-- An instance behind a name, and not behind the first of them that is shown: a walk passes it, or ends
-- at it.
pub record IsPassed (shows : List ℕ → Bool) (rows : List Binding) (name : List ℕ) (row : Binding) :
    Type 0 where
  pub contained : Contains rows row
  pub greater : IsTrue (name_lt name row.name)
  pub until : (found : Binding) → next_of (visible shows rows) name ≡ Some found →
      name_lt found.name row.name ≡ false

-- A walk from a name passes an instance whose name has more than 24 numbers, or ends at it.
pub record PassesLong (shows : List ℕ → Bool) (rows : List Binding) (name : List ℕ) : Type 0 where
  pub row : Binding
  pub passed : IsPassed shows rows name row
  pub long : INLINE_NUMBERS < length row.name

-- What GetNext answers under a name takes a name of more than 24 numbers: that of an instance that the
-- walk passes or ends at, or the name itself, under endOfMibView.
pub data LacksName (shows : List ℕ → Bool) (rows : List Binding) (name : List ℕ) : Type 0 where
  of_instance : PassesLong shows rows name → LacksName shows rows name
  of_end : (none : next_of (visible shows rows) name ≡ None) (long : INLINE_NUMBERS < length name) →
      LacksName shows rows name
