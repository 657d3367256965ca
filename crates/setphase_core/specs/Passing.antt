-- A walk that passes over objects as a whole, by a test of their names.
use Rattle.std.specs.Prelude.{◌≡◌, ℕ, Bool, false, not, ◌&&◌, IsTrue, List, filter, Option, Some, None}
use Rattle.std.specs.List.{count_by}
use Rattle.oid_core.specs.Order.{is_prefix}
use Rattle.message_core.specs.declared.binding.Binding.{Binding}
use Rattle.setphase_core.specs.declared.world.World.{World}
use Rattle.setphase_core.specs.Objects.{ObjectRow}
use Rattle.setphase_core.specs.Registry.{instances}
use Rattle.setphase_core.specs.Searching.{may_follow}

-- The objects that are not passed over, and their instances.
abbrev pub open_rows : (List ℕ → Bool) → List ObjectRow → List ObjectRow
open_rows passes rows = filter (λ row. not (passes row.prefix)) rows

abbrev pub open_instances : (List ℕ → Bool) → List ObjectRow → World → List Binding
open_instances passes rows w = instances (open_rows passes rows) w

-- How many objects are passed over, of those that may have an instance after a name.
abbrev pub passed_after : (List ℕ → Bool) → List ObjectRow → List ℕ → ℕ
passed_after passes rows name =
    count_by (λ row. passes row.prefix && may_follow name row.prefix) rows

-- How many of those are still ahead behind an instance that was found; none at the end.
abbrev pub passed_ahead : (List ℕ → Bool) → List ObjectRow → Option Binding → ℕ
passed_ahead passes rows None = 0
passed_ahead passes rows (Some found) = passed_after passes rows found.name

-- A test passes over only objects none of whose names is shown.
abbrev pub PassesHidden : (List ℕ → Bool) → (List ℕ → Bool) → Type 0
PassesHidden passes shows =
    (prefix name : List ℕ) → IsTrue (passes prefix) → IsTrue (is_prefix prefix name)
    → shows name ≡ false
