-- What stands in a value, in a binding, without memory of its own.
use Rattle.std.specs.Prelude.{◌≤◌, length}
use Rattle.oid_core.specs.declared.limits.TheConstants.{INLINE_NUMBERS}
use Rattle.message_core.specs.declared.limits.TheConstants.{INLINE_OCTETS}
use Rattle.message_core.specs.declared.value.Value.{Value}
use Rattle.message_core.specs.declared.value.Value.TheVariants.{Integer, OctetString, Null, ObjectIdentifier, IpAddress, Counter32, Gauge32, TimeTicks, Opaque, Counter64, NoSuchObject, NoSuchInstance, EndOfMibView}
use Rattle.message_core.specs.declared.binding.Binding.{Binding}

-- Few octets in an OCTET STRING or an Opaque, few sub-identifiers in an OBJECT IDENTIFIER, and any
-- other value.
abbrev pub IsInlineValue : Value → Type 0
IsInlineValue (Integer z) = Unit {0}
IsInlineValue (OctetString bytes) = length bytes ≤ INLINE_OCTETS
IsInlineValue Null = Unit {0}
IsInlineValue (ObjectIdentifier name) = length name ≤ INLINE_NUMBERS
IsInlineValue (IpAddress bytes) = Unit {0}
IsInlineValue (Counter32 n) = Unit {0}
IsInlineValue (Gauge32 n) = Unit {0}
IsInlineValue (TimeTicks n) = Unit {0}
IsInlineValue (Opaque bytes) = length bytes ≤ INLINE_OCTETS
IsInlineValue (Counter64 n) = Unit {0}
IsInlineValue NoSuchObject = Unit {0}
IsInlineValue NoSuchInstance = Unit {0}
IsInlineValue EndOfMibView = Unit {0}

-- The name of a binding is short too.
pub record IsInlineBinding (b : Binding) : Type 0 where
  pub name : length b.name ≤ INLINE_NUMBERS
  pub value : IsInlineValue b.value
