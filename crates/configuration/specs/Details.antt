-- What an operator reads of a fault, by the text that it is in.
use Rattle.std.specs.Prelude.{◌≡◌, ℕ, codes, decimal, List, ◌++◌, Option, Some, None, option_and_then, slice_get}
use Rattle.toml.specs.Data.{Data, Members, get_member, as_table}
use Rattle.toml.specs.Parse.{parse_document}
use Rattle.community_core.specs.declared.fault.PolicyFault.{PolicyFault}
use Rattle.community_core.specs.declared.fault.PolicyFault.TheVariants.{BadField, BadLength}
use Rattle.community_core.specs.declared.fault.PolicyTable.{PolicyTable}
use Rattle.community_core.specs.declared.fault.PolicyTable.TheVariants.{Groups, Access, Families, Contexts, Communities}
use Rattle.policy_text.specs.Keys.{array_at}
use Rattle.policy_text.specs.Reading.{◌>=>◌}
use Rattle.policy_text.specs.Texts.{text_of}
use Rattle.configuration.specs.declared.address.AddressFault.{AddressFault}
use Rattle.configuration.specs.declared.address.AddressFault.TheVariants as address
use Rattle.configuration.specs.declared.fault.ConfigurationFault.{ConfigurationFault}
use Rattle.configuration.specs.declared.fault.ConfigurationFault.TheVariants.{Memory, BadOctets, BadText, BadAddress, BadPorts, BadPort, BadServe, BadKeys, Policy}
use Rattle.configuration.specs.declared.fault.PortKey.{PortKey}
use Rattle.configuration.specs.declared.fault.PortKey.TheVariants.{Other as AnotherOfPort}
use Rattle.configuration.specs.declared.fault.ServeKey.{ServeKey}
use Rattle.configuration.specs.declared.fault.ServeKey.TheVariants.{Other as AnotherOfServe}
use Rattle.configuration.specs.declared.fault.PolicyKey.{PolicyKey}
use Rattle.configuration.specs.declared.fault.PolicyKey.TheVariants.{Other as AnotherOfPolicy}
use Rattle.configuration.specs.declared.known_keys.Part.TheVariants as part
use Rattle.configuration.specs.declared.rows.RowKey.{RowKey}
use Rattle.configuration.specs.declared.rows.RowKey.TheVariants as key
use Rattle.configuration.specs.declared.shown.TheConstants.{MAX_NAME_SHOWN, MAX_MESSAGE_SHOWN}
use Rattle.configuration.specs.AddressFaults.{address_fault}
use Rattle.configuration.specs.KnownKeys.{unknown_key, unknown_of}
use Rattle.configuration.specs.Rows.{row_fault, row_length}
use Rattle.configuration.specs.Sentences.{row_count, row_sentence, table_key, length_rule, field_rule, policy_sentence, port_rule, serve_sentence, keys_sentence, text_sentence, memory_sentence, sentence}
use Rattle.configuration.specs.Shown.{shown}

-- the members of the table that octets write, if they write one
abbrev pub members_in : List ℕ → Option Members
members_in octets = text_of octets >=> parse_document

-- the element of an array under a key, if there is one
abbrev pub row_at : List ℕ → ℕ → Members → Option Data
row_at name row ms = array_at name ms >=> (λ rows. slice_get rows row)

-- the table that a value is, if it is there and is one
abbrev pub table_in : Option Data → Option Members
table_in value = value >=> as_table

-- what would be right, behind the key that is unknown, if there is one
abbrev pub unknown_rule : Option (List ℕ) → List ℕ → List ℕ
unknown_rule None rule = rule
unknown_rule (Some name) rule =
    codes "unknown key \"" ++ (shown MAX_NAME_SHOWN name ++ (codes "\": " ++ rule))

-- ---- the address

abbrev pub address_rule : AddressFault → List ℕ
address_rule address.Empty = codes "the text: it is empty; its keys are to be address, port, contexts, community, group, access and family, and may be serve, and no others"
address_rule address.Missing =
    codes "top level: address is missing; it is to be a string of 12 hexadecimal digits"
address_rule address.NoString =
    codes "top level: address is to be a string of 12 hexadecimal digits"
address_rule address.Length = codes "top level: address is to have 12 hexadecimal digits"
address_rule (address.Digit index) = codes "top level: address is to have 12 hexadecimal digits"
address_rule address.Group =
    codes "top level: address is to be no group address: its first octet is even"

-- of a digit its number, counted from 1
abbrev pub address_sentence : AddressFault → List ℕ
address_sentence address.Empty = address_rule address.Empty
address_sentence address.Missing = address_rule address.Missing
address_sentence address.NoString = address_rule address.NoString
address_sentence address.Length = address_rule address.Length
address_sentence (address.Digit index) =
    codes "top level: character " ++ (decimal (row_count index)
    ++ codes " of address, counted from 1, is to be a hexadecimal digit")
address_sentence address.Group = address_rule address.Group

-- ---- the rows of a policy

abbrev pub model_rule : PolicyTable → List ℕ
model_rule Groups = codes "model is to be an integer of 1 to 2147483647"
model_rule Access = codes "model is to be an integer of 0 to 2147483647"
model_rule Families = codes "model is to be an integer of 1 to 2147483647"
model_rule Contexts = codes "model is to be an integer of 1 to 2147483647"
model_rule Communities = codes "model is to be an integer of 1 to 2147483647"

abbrev pub name_rule : PolicyTable → List ℕ
name_rule Groups = codes "name is to be a string of ASCII letters and digits, -, _ and ."
name_rule Access = codes "name is to be a string of ASCII letters and digits, -, _ and ."
name_rule Families = codes "name is to be a string of ASCII letters and digits, -, _ and ."
name_rule Contexts = codes "name is to be a string of ASCII letters and digits, -, _ and ."
name_rule Communities = codes "name is to be a string"

-- what the key of a row is to hold
abbrev pub field_text : PolicyTable → RowKey → List ℕ
field_text which key.Model = model_rule which
field_text which key.Name = name_rule which
field_text which key.Group =
    codes "group is to be a string of ASCII letters and digits, -, _ and ."
field_text which key.Prefix =
    codes "prefix is to be a string of ASCII letters and digits, -, _ and ."
field_text which key.Level = codes "level is to be an integer of 1 to 3"
field_text which key.Exact = codes "exact is to be true or false"
field_text which key.Read = codes "read is to be a string of ASCII letters and digits, -, _ and ."
field_text which key.Write =
    codes "write is to be a string of ASCII letters and digits, -, _ and ."
field_text which key.Notify =
    codes "notify is to be a string of ASCII letters and digits, -, _ and ."
field_text which key.View = codes "view is to be a string of ASCII letters and digits, -, _ and ."
field_text which key.Subtree =
    codes "subtree is to be a string of 1 to 128 numbers below 4294967296 with dots between them and no leading zeros"
field_text which key.Mask = codes "mask is to be a string of hexadecimal digits, two an octet"
field_text which key.Included = codes "included is to be true or false"
field_text which key.Index =
    codes "index is to be a string of ASCII letters and digits, -, _ and ."
field_text which key.Security =
    codes "security is to be a string of ASCII letters and digits, -, _ and ."
field_text which key.Context =
    codes "context is to be a string of ASCII letters and digits, -, _ and ."

abbrev pub name_length : PolicyTable → List ℕ
name_length Groups = codes "name is to have 1 to 32 octets"
name_length Access = codes "name is to have 1 to 32 octets"
name_length Families = codes "name is to have 1 to 32 octets"
name_length Contexts = codes "name is to have 1 to 32 octets"
name_length Communities = codes "name is to have 1 to 255 octets"

-- how long the text of a row's key may be
abbrev pub length_text : PolicyTable → RowKey → List ℕ
length_text which key.Model = length_rule which
length_text which key.Name = name_length which
length_text which key.Group = codes "group is to have 1 to 32 octets"
length_text which key.Prefix = codes "prefix is to have at most 32 octets"
length_text which key.Level = length_rule which
length_text which key.Exact = length_rule which
length_text which key.Read = codes "read is to have at most 32 octets"
length_text which key.Write = codes "write is to have at most 32 octets"
length_text which key.Notify = codes "notify is to have at most 32 octets"
length_text which key.View = codes "view is to have 1 to 32 octets"
length_text which key.Subtree =
    codes "the numbers of subtree and the octets of view are to be at most 114 together"
length_text which key.Mask = codes "mask is to have at most 32 digits (16 octets)"
length_text which key.Included = length_rule which
length_text which key.Index = codes "index is to have 1 to 32 octets"
length_text which key.Security = codes "security is to have 1 to 32 octets"
length_text which key.Context = codes "context is to have at most 32 octets"

-- of a row with a wrong value the first key that is wrong, else behind the key that is unknown which
-- keys it may have
abbrev pub field_rule_by : PolicyTable → Option (List ℕ) → Option RowKey → List ℕ
field_rule_by which unknown (Some wrong) = field_text which wrong
field_rule_by which unknown None = unknown_rule unknown (field_rule which)

abbrev pub field_detail : PolicyTable → Option Members → List ℕ
field_detail which None = field_rule which
field_detail which (Some ms) =
    field_rule_by which (unknown_key (part.Row which) ms) (row_fault which ms)

-- how long the text of a row may be whose length is wrong
abbrev pub length_rule_by : PolicyTable → Option RowKey → List ℕ
length_rule_by which (Some wrong) = length_text which wrong
length_rule_by which None = length_rule which

abbrev pub length_detail : PolicyTable → Option Members → List ℕ
length_detail which None = length_rule which
length_detail which (Some ms) = length_rule_by which (row_length which ms)

-- the key under which the rows of a table stand
abbrev pub rows_key : PolicyTable → List ℕ
rows_key Groups = codes "group"
rows_key Access = codes "access"
rows_key Families = codes "family"
rows_key Contexts = codes "contexts"
rows_key Communities = codes "community"

abbrev pub policy_detail : Members → PolicyFault → List ℕ
policy_detail ms (BadField which row) =
    row_sentence (table_key which) row (field_detail which (table_in (row_at (rows_key which) row ms)))
policy_detail ms (BadLength which row) =
    row_sentence (table_key which) row (length_detail which (table_in (row_at (rows_key which) row ms)))
policy_detail ms fault = policy_sentence fault

-- ---- the keys of a configuration's own

-- what would be right of a port
abbrev pub port_rule_in : Members → ℕ → PortKey → List ℕ
port_rule_in ms row AnotherOfPort =
    unknown_rule (unknown_of part.Port (table_in (row_at (codes "port") row ms))) (port_rule AnotherOfPort)
port_rule_in ms row wrong = port_rule wrong

abbrev pub port_detail : Members → ℕ → PortKey → List ℕ
port_detail ms row wrong = row_sentence (codes "[[port]]") row (port_rule_in ms row wrong)

abbrev pub serve_detail : Members → ServeKey → List ℕ
serve_detail ms AnotherOfServe =
    codes "table serve: " ++
    unknown_rule (unknown_of part.Serve (table_in (get_member (codes "serve") ms)))
    (codes "its keys are to be snmp, workers and rounds, and no others")
serve_detail ms wrong = serve_sentence wrong

abbrev pub keys_detail : Members → PolicyKey → List ℕ
keys_detail ms AnotherOfPolicy =
    codes "top level: " ++
    unknown_rule (unknown_key part.Top ms)
    (codes "its keys are to be address, port, contexts, community, group, access and family, and may be serve, and no others")
keys_detail ms wrong = keys_sentence wrong

-- the sentence on a fault of a table
abbrev pub table_sentence : Members → ConfigurationFault → List ℕ
table_sentence ms BadAddress = address_sentence (address_fault ms)
table_sentence ms (BadPort row wrong) = port_detail ms row wrong
table_sentence ms (BadServe wrong) = serve_detail ms wrong
table_sentence ms (BadKeys wrong) = keys_detail ms wrong
table_sentence ms (Policy fault) = policy_detail ms fault
table_sentence ms fault = sentence fault

-- ---- a whole file

-- a text that is no TOML document, with what its reader says
abbrev pub expected_sentence : ℕ → List ℕ → List ℕ
expected_sentence line message =
    text_sentence line ++ (codes ": " ++ shown MAX_MESSAGE_SHOWN message)

-- the sentence by the table that the octets write, if they write one
abbrev pub sentence_by : Option Members → ConfigurationFault → List ℕ
sentence_by (Some ms) fault = table_sentence ms fault
sentence_by None fault = sentence fault

-- The sentence on this fault of these octets. What TOML's reader says of a text that is no document is
-- its own.
abbrev pub IsSentenceIn : List ℕ → ConfigurationFault → List ℕ → Type 0
IsSentenceIn octets Memory text = text ≡ memory_sentence
IsSentenceIn octets (BadText line) text =
    (message : List ℕ) × (text ≡ expected_sentence line message)
IsSentenceIn octets BadOctets text = text ≡ sentence_by (members_in octets) BadOctets
IsSentenceIn octets BadAddress text = text ≡ sentence_by (members_in octets) BadAddress
IsSentenceIn octets BadPorts text = text ≡ sentence_by (members_in octets) BadPorts
IsSentenceIn octets (BadPort row wrong) text =
    text ≡ sentence_by (members_in octets) (BadPort row wrong)
IsSentenceIn octets (BadServe wrong) text =
    text ≡ sentence_by (members_in octets) (BadServe wrong)
IsSentenceIn octets (BadKeys wrong) text =
    text ≡ sentence_by (members_in octets) (BadKeys wrong)
IsSentenceIn octets (Policy fault) text = text ≡ sentence_by (members_in octets) (Policy fault)
