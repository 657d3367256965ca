-- What an operator reads of each warning: where it stands, what would be right there, and what comes of it
-- as it is. No sentence has a text of the policy.
use Rattle.std.specs.Prelude.{ℕ, codes, decimal, List, ◌++◌}
use Rattle.configuration.specs.declared.warning.RowWarning.{RowWarning}
use Rattle.configuration.specs.declared.warning.RowWarning.TheVariants as row
use Rattle.configuration.specs.declared.warning.PortWarning.{PortWarning}
use Rattle.configuration.specs.declared.warning.PortWarning.TheVariants as port
use Rattle.configuration.specs.declared.warning.Warning.{Warning}
use Rattle.configuration.specs.declared.warning.Warning.TheVariants.{NoCommunity, Row, Port}
use Rattle.configuration.specs.Sentences.{row_count, row_sentence, table_key}
use Rattle.configuration.specs.Warnings.{table_of}

abbrev pub row_rule : RowWarning → List ℕ
row_rule row.UnknownContext =
    codes "context is to be empty or one of contexts: no request of this community is answered"
row_rule row.NoGroup =
    codes "security is to be the name in a row of [[group]] with model 2: this community may read and write nothing"
row_rule row.GroupModel = codes "model is to be 2, SNMPv2c: no request has another"
row_rule row.NoAccess =
    codes "group is to be that of a row of [[access]]: who is in it may read and write nothing"
row_rule row.AccessModel = codes "model is to be 2, SNMPv2c, or 0, any: no request has another"
row_rule row.AccessLevel = codes "level is to be 1, that of SNMPv2c: no request has a higher one"
row_rule row.NoMember = codes "group is to be that of a row of [[group]]: nobody is in it"
row_rule row.NoReadFamily =
    codes "read is to be empty or the view of a row of [[family]]: nothing can be read by it"
row_rule row.NoWriteFamily =
    codes "write is to be empty or the view of a row of [[family]]: nothing can be written by it"
row_rule row.UnusedView =
    codes "view is to be read, write or notify of a row of [[access]]: nobody is given this view"

-- a key that is to differ from that of a row above, and what comes of it where it does not
abbrev pub other_rule : List ℕ → ℕ → List ℕ → List ℕ
other_rule key above why =
    key ++ (codes " is to be another than that of row " ++ (decimal (row_count above) ++ (codes ": " ++ why)))

abbrev pub port_rule : PortWarning → List ℕ
port_rule (port.SameIfindex above) =
    other_rule (codes "ifindex") above (codes "both ports show one interface")
port_rule (port.SameListen above) =
    other_rule (codes "listen") above (codes "one address takes the frames of one port")
port_rule (port.SamePeer above) =
    other_rule (codes "peer") above (codes "the frames of both ports go to one address")
port_rule port.ListenIsSnmp =
    codes "listen is to be another than snmp of table serve: one address takes frames or requests"
port_rule port.PeerPortZero =
    codes "peer is to have a port number of 1 to 65535: nothing can be sent to 0"

abbrev pub port_sentence : PortWarning → ℕ → List ℕ
port_sentence warning n = row_sentence (codes "[[port]]") n (port_rule warning)

abbrev pub warning_sentence : Warning → List ℕ
warning_sentence NoCommunity =
    codes "top level: community is to have a row for each community that may ask: no request is answered"
warning_sentence (Row warning n) = row_sentence (table_key (table_of warning)) n (row_rule warning)
warning_sentence (Port warning n) = port_sentence warning n
