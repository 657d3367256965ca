-- What has an encoding.
use Rattle.std.specs.Prelude.{◌≡◌, ℕ, ◌<◌, ◌≤◌, ◌^◌, FitsSigned, List, length}
use Rattle.std.specs.List.{AllByRecursion}
use Rattle.std.specs.Int.{w32}
use Rattle.oid_core.specs.Name.{HasRoot}
use Rattle.oid_core.specs.declared.limits.TheConstants.{MAX_NUMBERS}
use Rattle.message_core.specs.declared.value.Value.{Value}
use Rattle.message_core.specs.declared.value.Value.TheVariants.{Integer, OctetString, Null, ObjectIdentifier, IpAddress, Counter32, Gauge32, TimeTicks, Opaque, Counter64, NoSuchObject, NoSuchInstance, EndOfMibView}
use Rattle.message_core.specs.declared.binding.Binding.{Binding}
use Rattle.message_core.specs.declared.request.Request.{Request}
use Rattle.message_core.specs.declared.reply.Reply.{Reply}

-- An OBJECT IDENTIFIER value begins as X.690, 8.19.4 asks: 0, 1 or 2, and below 2 a second number
-- of at most 39.
abbrev pub IsEncodableValue : Value → Type 0
IsEncodableValue (Integer z) = Unit {0}
IsEncodableValue (OctetString bytes) = Unit {0}
IsEncodableValue Null = Unit {0}
IsEncodableValue (ObjectIdentifier name) = HasRoot name
IsEncodableValue (IpAddress bytes) = Unit {0}
IsEncodableValue (Counter32 n) = Unit {0}
IsEncodableValue (Gauge32 n) = Unit {0}
IsEncodableValue (TimeTicks n) = Unit {0}
IsEncodableValue (Opaque bytes) = Unit {0}
IsEncodableValue (Counter64 n) = Unit {0}
IsEncodableValue NoSuchObject = Unit {0}
IsEncodableValue NoSuchInstance = Unit {0}
IsEncodableValue EndOfMibView = Unit {0}

-- The name of a binding begins so too.
pub record IsEncodableBinding (b : Binding) : Type 0 where
  pub name : HasRoot b.name
  pub value : IsEncodableValue b.value

abbrev pub AreEncodable : List Binding → Type 0
AreEncodable bs = AllByRecursion IsEncodableBinding bs

-- A name of at most `MAX_NUMBERS` sub-identifiers, each below 2 ^ 32, as every `Oid` is.
pub record FitsName (name : List ℕ) : Type 0 where
  pub most : length name ≤ MAX_NUMBERS
  pub each : AllByRecursion (λ n. n < 2 ^ 32) name

-- A value in the range of its type, as every `Value` is.
abbrev pub FitsValue : Value → Type 0
FitsValue (Integer z) = FitsSigned w32 z
FitsValue (OctetString bytes) = Unit {0}
FitsValue Null = Unit {0}
FitsValue (ObjectIdentifier name) = FitsName name
FitsValue (IpAddress bytes) = length bytes ≡ 4
FitsValue (Counter32 n) = n < 2 ^ 32
FitsValue (Gauge32 n) = n < 2 ^ 32
FitsValue (TimeTicks n) = n < 2 ^ 32
FitsValue (Opaque bytes) = Unit {0}
FitsValue (Counter64 n) = n < 2 ^ 64
FitsValue NoSuchObject = Unit {0}
FitsValue NoSuchInstance = Unit {0}
FitsValue EndOfMibView = Unit {0}

-- A binding that has an encoding.
pub record HasEncoding (b : Binding) : Type 0 where
  pub encodable : IsEncodableBinding b
  pub name : FitsName b.name
  pub value : FitsValue b.value

-- A request that has an encoding.
pub record FitsRequest (r : Request) : Type 0 where
  pub id : FitsSigned w32 r.id
  pub first : FitsSigned w32 r.first
  pub second : FitsSigned w32 r.second
  pub bindings : AllByRecursion HasEncoding r.bindings

-- A reply that has an encoding.
pub record FitsReply (r : Reply) : Type 0 where
  pub id : FitsSigned w32 r.id
  pub index : FitsSigned w32 r.index
  pub bindings : AllByRecursion HasEncoding r.bindings
