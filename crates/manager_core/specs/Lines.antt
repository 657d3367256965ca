-- The lines that a manager writes: on standard output one for each binding, its name, its type and
-- its value, with single spaces; on standard error one for a fault.
use Rattle.std.specs.Prelude.{ℕ, codes, decimal, List, ◌++◌}
use Rattle.std.specs.Fmt.{signed_decimal}
use Rattle.std.specs.List.{flat_map}
use Rattle.hex.specs.Hex.{encode_upper}
use Rattle.oid_core.specs.Text.{dotted_text}
use Rattle.message_core.specs.Status.{code_of}
use Rattle.message_core.specs.declared.value.Value.{Value}
use Rattle.message_core.specs.declared.value.Value.TheVariants.{Integer, OctetString, Null, ObjectIdentifier, IpAddress, Counter32, Gauge32, TimeTicks, Opaque, Counter64, NoSuchObject, NoSuchInstance, EndOfMibView}
use Rattle.message_core.specs.declared.binding.Binding.{Binding}
use Rattle.manager_core.specs.declared.fault.ManagerFault.{ManagerFault}
use Rattle.manager_core.specs.declared.fault.ManagerFault.TheVariants.{Timeout, BadReply, Error, NotIncreasing, Memory}

-- A type, and a number in decimal, octets in hexadecimal, a name or an address with dots; a type or
-- an exception that has no value stands alone.
abbrev pub value_text : Value → List ℕ
value_text (Integer z) = codes "INTEGER " ++ signed_decimal z
value_text (OctetString octets) = codes "OCTETS " ++ encode_upper octets
value_text Null = codes "NULL"
value_text (ObjectIdentifier name) = codes "OID " ++ dotted_text name
value_text (IpAddress octets) = codes "IPADDRESS " ++ dotted_text octets
value_text (Counter32 n) = codes "COUNTER32 " ++ decimal n
value_text (Gauge32 n) = codes "GAUGE32 " ++ decimal n
value_text (TimeTicks n) = codes "TIMETICKS " ++ decimal n
value_text (Opaque octets) = codes "OPAQUE " ++ encode_upper octets
value_text (Counter64 n) = codes "COUNTER64 " ++ decimal n
value_text NoSuchObject = codes "noSuchObject"
value_text NoSuchInstance = codes "noSuchInstance"
value_text EndOfMibView = codes "endOfMibView"

abbrev pub binding_line : Binding → List ℕ
binding_line b = dotted_text b.name ++ codes " " ++ value_text b.value ++ codes "\n"

abbrev pub lines_of : List Binding → List ℕ
lines_of bs = flat_map binding_line bs

-- What a fault is called, a status by its number.
abbrev pub fault_text : ManagerFault → List ℕ
fault_text (Timeout tries) = codes "timeout"
fault_text BadReply = codes "bad reply"
fault_text (Error status index) =
    codes "error " ++ signed_decimal (code_of status) ++ codes " index " ++ signed_decimal index
fault_text NotIncreasing = codes "not increasing"
fault_text Memory = codes "no memory"
