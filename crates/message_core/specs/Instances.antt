-- Lists of instances whose names rise: what stands under a name, what comes after one, and what can
-- be served (RFC 3416, 4.2.1 and 4.2.2).
use Rattle.std.specs.Prelude.{◌≡◌, ℕ, false, if◌then◌else◌, List, [], ◌∷◌, map, filter, find, Option, Some, None, IsTrue, AllPairs, All, Contains}
use Rattle.std.specs.List.{AllByRecursion}
use Rattle.oid_core.specs.Order.{name_lt, name_eq}
use Rattle.message_core.specs.Encodable.{AreEncodable}
use Rattle.message_core.specs.declared.value.Value.{Value}
use Rattle.message_core.specs.declared.value.Value.TheVariants.{Integer, OctetString, Null, ObjectIdentifier, IpAddress, Counter32, Gauge32, TimeTicks, Opaque, Counter64, NoSuchObject, NoSuchInstance, EndOfMibView}
use Rattle.message_core.specs.declared.binding.Binding.{Binding}

-- each name is less than all later ones
abbrev pub IsRising : List Binding → Type 0
IsRising rows = AllPairs (λ a b. IsTrue (name_lt a.name b.name)) rows

-- the names of bindings
abbrev pub names_of : List Binding → List (List ℕ)
names_of bindings = map (λ b. b.name) bindings

-- the value under a name, if an instance has that name
abbrev pub value_of : List Binding → List ℕ → Option Value
value_of [] name = None
value_of (row ∷ rows) name = if name_eq row.name name then Some row.value else value_of rows name

-- the instances that stand after a name
abbrev pub after : List ℕ → List Binding → List Binding
after name rows = filter (λ row. name_lt name row.name) rows

-- the first instance after a name
abbrev pub next_of : List Binding → List ℕ → Option Binding
next_of rows name = find (λ row. name_lt name row.name) rows

-- `row` is the least of the instances whose names are greater
pub record IsLeastAfter (rows : List Binding) (name : List ℕ) (row : Binding) : Type 0 where
  pub contained : Contains rows row
  pub greater : IsTrue (name_lt name row.name)
  pub least : All (λ other. IsTrue (name_lt name other.name) → name_lt other.name row.name ≡ false) rows

-- A value that an instance can have: none of the three exceptions, which stand for the want of one
-- (RFC 3416, section 3).
abbrev pub IsInstanceValue : Value → Type 0
IsInstanceValue (Integer z) = Unit {0}
IsInstanceValue (OctetString bytes) = Unit {0}
IsInstanceValue Null = Unit {0}
IsInstanceValue (ObjectIdentifier name) = Unit {0}
IsInstanceValue (IpAddress bytes) = Unit {0}
IsInstanceValue (Counter32 n) = Unit {0}
IsInstanceValue (Gauge32 n) = Unit {0}
IsInstanceValue (TimeTicks n) = Unit {0}
IsInstanceValue (Opaque bytes) = Unit {0}
IsInstanceValue (Counter64 n) = Unit {0}
IsInstanceValue NoSuchObject = ⊥
IsInstanceValue NoSuchInstance = ⊥
IsInstanceValue EndOfMibView = ⊥

-- no value is an exception
abbrev pub AreValued : List Binding → Type 0
AreValued rows = AllByRecursion (λ row. IsInstanceValue row.value) rows

-- instances that can be served: their names rise, each can be encoded in a message, and none has an
-- exception for its value
pub record IsServable (rows : List Binding) : Type 0 where
  pub rising : IsRising rows
  pub encodable : AreEncodable rows
  pub valued : AreValued rows
