-- What an operator reads of each fault: where it stands, and what would be right there.
use Rattle.std.specs.Prelude.{ℕ, ◌+◌, ◌-◌, ◌^◌, min, codes, decimal, List, ◌++◌}
use Rattle.community_core.specs.declared.fault.PolicyFault.{PolicyFault}
use Rattle.community_core.specs.declared.fault.PolicyFault.TheVariants.{Memory as NoMemory, Duplicate, BadLength, BadField}
use Rattle.community_core.specs.declared.fault.PolicyTable.{PolicyTable}
use Rattle.community_core.specs.declared.fault.PolicyTable.TheVariants.{Groups, Access, Families, Contexts, Communities}
use Rattle.configuration.specs.declared.fault.ConfigurationFault.{ConfigurationFault}
use Rattle.configuration.specs.declared.fault.ConfigurationFault.TheVariants.{Memory, BadOctets, BadText, BadAddress, BadPorts, BadPort, BadServe, BadKeys, Policy}
use Rattle.configuration.specs.declared.fault.PortKey.{PortKey}
use Rattle.configuration.specs.declared.fault.PortKey.TheVariants.{Ifindex, Speed, Full, Listen, Peer, Other as AnotherOfPort}
use Rattle.configuration.specs.declared.fault.ServeKey.{ServeKey}
use Rattle.configuration.specs.declared.fault.ServeKey.TheVariants.{Serve, Snmp, Workers, Rounds, Other as AnotherOfServe}
use Rattle.configuration.specs.declared.fault.PolicyKey.{PolicyKey}
use Rattle.configuration.specs.declared.fault.PolicyKey.TheVariants.{Contexts as ContextsKey, Community as CommunityKey, Group as GroupKey, Access as AccessKey, Family as FamilyKey, Other as AnotherOfPolicy}

-- the number of a row, counted from 1, of one that is counted from 0; no table has 2^64 rows
abbrev pub row_count : ℕ → ℕ
row_count row = min (row + 1) (2 ^ 64 - 1)

-- a row of a table, and what would be right there
abbrev pub row_sentence : List ℕ → ℕ → List ℕ → List ℕ
row_sentence table row rule =
    codes "row " ++ (decimal (row_count row) ++ (codes " of " ++ (table ++ (codes ", counted from 1: " ++ rule))))

-- a table as it stands in the text
abbrev pub table_key : PolicyTable → List ℕ
table_key Groups = codes "[[group]]"
table_key Access = codes "[[access]]"
table_key Families = codes "[[family]]"
table_key Contexts = codes "contexts"
table_key Communities = codes "[[community]]"

-- Which keys no earlier row may have. Contexts have none, since they may be equal: no configuration
-- is at fault for one that stands twice.
abbrev pub key_rule : PolicyTable → List ℕ
key_rule Groups = codes "no earlier row may have its model and name"
key_rule Access = codes "no earlier row may have its group, prefix, model and level"
key_rule Families = codes "no earlier row may have its view and subtree"
key_rule Contexts = codes "any context may stand twice"
key_rule Communities = codes "no earlier row may have its index"

-- how long its texts may be
abbrev pub length_rule : PolicyTable → List ℕ
length_rule Groups = codes "name and group are to have 1 to 32 octets"
length_rule Access =
    codes "group is to have 1 to 32 octets, prefix, read, write and notify at most 32"
length_rule Families = codes "view is to have 1 to 32 octets, mask at most 32 digits (16 octets), and the octets of view and the numbers of subtree are to be at most 114 together"
length_rule Contexts = codes "a context is to have at most 32 octets"
length_rule Communities =
    codes "index and security are to have 1 to 32 octets, name 1 to 255, context at most 32"

-- which keys and values a row is to have: a plain text is of ASCII letters and digits, `-`, `_`,
-- `.`
abbrev pub field_rule : PolicyTable → List ℕ
field_rule Groups = codes "it is to be a table whose keys are model (1 to 2147483647), name and group (strings of ASCII letters and digits, -, _ and .), and no others"
field_rule Access =
    codes "it is to be a table whose keys are group, prefix, read, write and notify (strings of ASCII letters and digits, -, _ and .), model (0 to 2147483647), level (1 to 3) and exact (true or false), and no others"
field_rule Families =
    codes "it is to be a table whose keys are view (a string of ASCII letters and digits, -, _ and .), subtree (a string of 1 to 128 numbers below 4294967296 with dots between them and no leading zeros), mask (a string of hexadecimal digits, two an octet) and included (true or false), and no others"
field_rule Contexts = codes "a context is to be a string of ASCII letters and digits, -, _ and ."
field_rule Communities = codes "it is to be a table whose keys are index, security and context (strings of ASCII letters and digits, -, _ and .) and name (a string), and no others"

abbrev pub memory_sentence : List ℕ
memory_sentence =
    codes "there was no memory to read the configuration; whether it is right is not known"

abbrev pub policy_sentence : PolicyFault → List ℕ
policy_sentence NoMemory = memory_sentence
policy_sentence (Duplicate table row) = row_sentence (table_key table) row (key_rule table)
policy_sentence (BadLength table row) = row_sentence (table_key table) row (length_rule table)
policy_sentence (BadField table row) = row_sentence (table_key table) row (field_rule table)

-- what the key of a port is to hold
abbrev pub port_rule : PortKey → List ℕ
port_rule Ifindex = codes "ifindex is to be an integer of 1 to 2147483647"
port_rule Speed = codes "speed is to be an integer, 10, 100 or 1000 (Mb/s)"
port_rule Full = codes "full is to be true or false"
port_rule Listen =
    codes "listen, where it stands, is to be a string of an address and a port, as \"127.0.0.1:161\""
port_rule Peer =
    codes "peer, where it stands, is to be a string of an address and a port, as \"127.0.0.1:161\""
port_rule AnotherOfPort =
    codes "its keys are to be ifindex, speed and full, and may be listen and peer, and no others"

-- the sentence on `serve`
abbrev pub serve_sentence : ServeKey → List ℕ
serve_sentence Serve = codes "table serve: it is to be one table"
serve_sentence Snmp =
    codes "table serve: snmp is to be a string of an address and a port, as \"127.0.0.1:161\""
serve_sentence Workers = codes "table serve: workers is to be an integer of 1 to 8"
serve_sentence Rounds = codes "table serve: rounds is to be an integer of 1 to 1000000"
serve_sentence AnotherOfServe =
    codes "table serve: its keys are to be snmp, workers and rounds, and no others"

-- the sentence on the keys at the top
abbrev pub keys_sentence : PolicyKey → List ℕ
keys_sentence ContextsKey = codes "top level: contexts is to be an array of strings"
keys_sentence CommunityKey = codes "top level: community is to be an array of tables"
keys_sentence GroupKey = codes "top level: group is to be an array of tables"
keys_sentence AccessKey = codes "top level: access is to be an array of tables"
keys_sentence FamilyKey = codes "top level: family is to be an array of tables"
keys_sentence AnotherOfPolicy =
    codes "top level: its keys are to be address, port, contexts, community, group, access and "
    ++ codes "family, and may be serve, and no others"

-- the sentence on a text that is no TOML document, by one of its lines, counted from 1
abbrev pub text_sentence : ℕ → List ℕ
text_sentence line =
    codes "line " ++ (decimal line
    ++ codes " of the text, counted from 1: it is to be TOML, in which no key stands twice")

-- the sentence on the bridge's address
abbrev pub address_sentence : List ℕ
address_sentence =
    codes "top level: address is to be a string of 12 hexadecimal digits, and no group address: "
    ++ codes "its first octet is even"

abbrev pub sentence : ConfigurationFault → List ℕ
sentence Memory = memory_sentence
sentence BadOctets = codes "the text: it is to be in UTF-8"
sentence (BadText line) = text_sentence line
sentence BadAddress = address_sentence
sentence BadPorts = codes "top level: port is to be an array of 1 to 32 tables"
sentence (BadPort row key) = row_sentence (codes "[[port]]") row (port_rule key)
sentence (BadServe key) = serve_sentence key
sentence (BadKeys key) = keys_sentence key
sentence (Policy fault) = policy_sentence fault
