-- What Get and GetNext answer over the instances that are seen (RFC 3416, 4.2.1 and 4.2.2). That a
-- name counts as known to Get by what the view shows is this agent's choice: so a hidden instance
-- leaves no trace.
use Rattle.std.specs.Prelude.{ℕ, Bool, false, if◌then◌else◌, ◌||◌, List, map, filter, find, Option, Some, None}
use Rattle.std.specs.List.{list_any}
use Rattle.oid_core.specs.Order.{is_prefix}
use Rattle.message_core.specs.Instances.{next_of, value_of}
use Rattle.message_core.specs.declared.binding.Binding.{Binding}
use Rattle.message_core.specs.declared.value.Value.{Value}
use Rattle.message_core.specs.declared.value.Value.TheVariants.{NoSuchObject, NoSuchInstance, EndOfMibView}

-- the instances that a view shows
abbrev pub visible : (List ℕ → Bool) → List Binding → List Binding
visible shows rows = filter (λ row. shows row.name) rows

-- endOfMibView under a name
abbrev pub end_under : List ℕ → Binding
end_under name = record { name = name; value = EndOfMibView }

-- the instance, or endOfMibView under the asked name
abbrev pub or_end : Option Binding → List ℕ → Binding
or_end (Some row) name = row
or_end None name = end_under name

-- What GetNext answers under a name: `rows` are the instances that are seen.
abbrev pub next_answer : List Binding → List ℕ → Binding
next_answer rows name = or_end (next_of rows name) name

-- what GetNext answers under each name, in order
abbrev pub next_answers : List Binding → List (List ℕ) → List Binding
next_answers rows names = map (λ name. next_answer rows name) names

-- the object whose name begins a name
abbrev pub object_of : List (List ℕ) → List ℕ → Option (List ℕ)
object_of objects name = find (λ object. is_prefix object name) objects

-- There is an object, and the asked name is in the view or an instance of that object is seen.
abbrev pub is_known : Bool → List Binding → Option (List ℕ) → Bool
is_known shown rows (Some object) = shown || list_any (λ row. is_prefix object row.name) rows
is_known shown rows None = false

-- the value, or noSuchInstance where the object is known, else noSuchObject
abbrev pub or_missing : Option Value → Bool → Value
or_missing (Some value) known = value
or_missing None known = if known then NoSuchInstance else NoSuchObject

-- What Get answers under a name: `rows` are the instances that are seen, and `shown` says whether
-- the name is in the view.
abbrev pub get_answer : List (List ℕ) → Bool → List Binding → List ℕ → Binding
get_answer objects shown rows name = record {
  name = name;
  value = or_missing (value_of rows name) (is_known shown rows (object_of objects name));
}

-- the bindings that Get answers, one for each asked name, in order
abbrev pub get_answers : List (List ℕ) → (List ℕ → Bool) → List Binding → List Binding →
    List Binding
get_answers objects shows rows asked =
    map (λ b. get_answer objects (shows b.name) (visible shows rows) b.name) asked
