-- The text of why octets are no policy alone. Of the octets it has at most the number of a line or of a row.
use Rattle.std.specs.Prelude.{ℕ, codes, List, Option, Some, None}
use Rattle.community_core.specs.declared.fault.PolicyTable.{PolicyTable}
use Rattle.configuration.specs.declared.causes.WrongField.{WrongField}
use Rattle.configuration.specs.declared.causes.WrongField.TheVariants as field
use Rattle.configuration.specs.declared.causes.WrongRow.{WrongRow}
use Rattle.configuration.specs.declared.causes.WrongRow.TheVariants.{Twice, Length, Field}
use Rattle.configuration.specs.declared.causes.PolicyCause.{PolicyCause}
use Rattle.configuration.specs.declared.causes.PolicyCause.TheVariants.{NoText, NoDocument, Keys, Row}
use Rattle.configuration.specs.declared.fault.ConfigurationFault.TheVariants.{BadOctets}
use Rattle.configuration.specs.declared.fault.PolicyKey.{PolicyKey}
use Rattle.configuration.specs.declared.fault.PolicyKey.TheVariants.{Contexts, Community, Group, Access, Family, Other}
use Rattle.configuration.specs.declared.rows.RowKey.{RowKey}
use Rattle.configuration.specs.Details.{field_text, length_text}
use Rattle.configuration.specs.Sentences.{row_sentence, table_key, key_rule, field_rule, length_rule, keys_sentence, text_sentence, sentence}

abbrev pub field_words : PolicyTable → WrongField → List ℕ
field_words which field.Row = field_rule which
field_words which (field.Key wrong) = field_text which wrong
field_words which field.UnknownKey = codes "unknown key"

abbrev pub length_words : PolicyTable → Option RowKey → List ℕ
length_words which (Some wrong) = length_text which wrong
length_words which None = length_rule which

-- what would be right of a row
abbrev pub rule_words : PolicyTable → WrongRow → List ℕ
rule_words which Twice = key_rule which
rule_words which (Length wrong) = length_words which wrong
rule_words which (Field wrong) = field_words which wrong

-- what would be right of the keys of a policy alone
abbrev pub keys_words : PolicyKey → List ℕ
keys_words Contexts = keys_sentence Contexts
keys_words Community = keys_sentence Community
keys_words Group = keys_sentence Group
keys_words Access = keys_sentence Access
keys_words Family = keys_sentence Family
keys_words Other = codes "top level: unknown key"

abbrev pub cause_text : PolicyCause → List ℕ
cause_text NoText = sentence BadOctets
cause_text (NoDocument line) = text_sentence line
cause_text (Keys wrong) = keys_words wrong
cause_text (Row which row wrong) = row_sentence (table_key which) row (rule_words which wrong)
