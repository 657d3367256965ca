-- The tags of a message and its values: one octet each (X.690, 8.1.2; the application tags: RFC
-- 2578, section 2, with the types in 7.1; RFC 3416, section 3).
use Rattle.std.specs.Prelude.{ℕ}

abbrev pub integer : ℕ
integer = 0x02

abbrev pub octet_string : ℕ
octet_string = 0x04

abbrev pub null : ℕ
null = 0x05

abbrev pub object_identifier : ℕ
object_identifier = 0x06

abbrev pub sequence : ℕ
sequence = 0x30

abbrev pub ip_address : ℕ
ip_address = 0x40

abbrev pub counter32 : ℕ
counter32 = 0x41

-- Unsigned32 has the same one.
abbrev pub gauge32 : ℕ
gauge32 = 0x42

abbrev pub time_ticks : ℕ
time_ticks = 0x43

abbrev pub opaque : ℕ
opaque = 0x44

abbrev pub counter64 : ℕ
counter64 = 0x46

abbrev pub no_such_object : ℕ
no_such_object = 0x80

abbrev pub no_such_instance : ℕ
no_such_instance = 0x81

abbrev pub end_of_mib_view : ℕ
end_of_mib_view = 0x82

abbrev pub get_request : ℕ
get_request = 0xA0

abbrev pub get_next_request : ℕ
get_next_request = 0xA1

abbrev pub response : ℕ
response = 0xA2

abbrev pub set_request : ℕ
set_request = 0xA3

abbrev pub get_bulk_request : ℕ
get_bulk_request = 0xA5
