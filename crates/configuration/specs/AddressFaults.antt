-- Why a table has no address of a bridge, where it has none.
use Rattle.std.specs.Prelude.{ℕ, ◌==◌, codes, if◌then◌else◌, List, Option, Some, None, Result, Ok, Err}
use Rattle.hex.specs.Hex.{decode_sized}
use Rattle.hex.specs.declared.error.FromHexError.{FromHexError}
use Rattle.hex.specs.declared.error.FromHexError.TheVariants.{InvalidHexCharacter}
use Rattle.toml.specs.Data.{Data, Members, get_member, as_str}
use Rattle.policy_text.specs.Keys.{key_count}
use Rattle.configuration.specs.declared.address.AddressFault.{AddressFault}
use Rattle.configuration.specs.declared.address.AddressFault.TheVariants.{Empty, Missing, NoString, Length, Digit, Group}

-- what the reading of six octets as hexadecimal digits found: they are those of a group, or not
-- digits, or not so many
abbrev pub decoded_fault : Result (List ℕ) FromHexError → AddressFault
decoded_fault (Ok octets) = Group
decoded_fault (Err (InvalidHexCharacter digit index)) = Digit index
decoded_fault (Err other) = Length

abbrev pub text_fault : List ℕ → AddressFault
text_fault text = decoded_fault (decode_sized text 6)

abbrev pub string_fault : Option (List ℕ) → AddressFault
string_fault (Some text) = text_fault text
string_fault None = NoString

abbrev pub value_fault : Data → AddressFault
value_fault d = string_fault (as_str d)

abbrev pub found_fault : Option Data → AddressFault
found_fault (Some d) = value_fault d
found_fault None = Missing

-- the first of these that holds: no key at all, no `address`, no string, no digits of six octets, a
-- group address
abbrev pub address_fault : Members → AddressFault
address_fault ms =
    if key_count ms == 0 then Empty else found_fault (get_member (codes "address") ms)
