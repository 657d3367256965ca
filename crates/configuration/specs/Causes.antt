-- Why octets are no policy alone: the first fault, and of a row the key that is wrong.
use Rattle.std.specs.Prelude.{◌≡◌, ◌⊎◌, ℕ, List, Option, Some, None, Result, Ok, Err}
use Rattle.toml.specs.Data.{Members}
use Rattle.toml.specs.Parse.{parse_document}
use Rattle.community_core.specs.Communities.{PolicyTables}
use Rattle.community_core.specs.declared.fault.PolicyFault.{PolicyFault}
use Rattle.community_core.specs.declared.fault.PolicyFault.TheVariants.{Duplicate, BadLength, BadField}
use Rattle.community_core.specs.declared.fault.PolicyTable.{PolicyTable}
use Rattle.policy_text.specs.Policies.{IsUnread, IsWrongPolicy}
use Rattle.policy_text.specs.Reading.{◌>=>◌}
use Rattle.policy_text.specs.Stated.{policy_of_members}
use Rattle.policy_text.specs.Texts.{text_of, policy_in}
use Rattle.configuration.specs.declared.causes.WrongField.{WrongField}
use Rattle.configuration.specs.declared.causes.WrongField.TheVariants as field
use Rattle.configuration.specs.declared.causes.WrongRow.{WrongRow}
use Rattle.configuration.specs.declared.causes.WrongRow.TheVariants.{Twice, Length, Field}
use Rattle.configuration.specs.declared.causes.PolicyCause.{PolicyCause}
use Rattle.configuration.specs.declared.causes.PolicyCause.TheVariants.{NoText, NoDocument, Keys, Row}
use Rattle.configuration.specs.declared.known_keys.Part.TheVariants as part
use Rattle.configuration.specs.declared.rows.RowKey.{RowKey}
use Rattle.configuration.specs.Details.{row_at, rows_key, table_in}
use Rattle.configuration.specs.KnownKeys.{unknown_key}
use Rattle.configuration.specs.Lines.{IsLineOf}
use Rattle.configuration.specs.PolicyKeys.{HasKeys, IsKeysFault}
use Rattle.configuration.specs.Rows.{row_fault, row_length}

-- ---- which key of a row is wrong

-- the row of this number, if it is a table
abbrev pub row_of : PolicyTable → ℕ → Members → Option Members
row_of which row ms = table_in (row_at (rows_key which) row ms)

-- of a row with a wrong value the first key that is wrong, else a key that is unknown, else the row itself
abbrev pub wrong_field_by : Option (List ℕ) → Option RowKey → WrongField
wrong_field_by unknown (Some wrong) = field.Key wrong
wrong_field_by (Some name) None = field.UnknownKey
wrong_field_by None None = field.Row

abbrev pub wrong_field : PolicyTable → Option Members → WrongField
wrong_field which None = field.Row
wrong_field which (Some ms) = wrong_field_by (unknown_key (part.Row which) ms) (row_fault which ms)

-- of a row with a wrong length the key whose text has it; none of a context
abbrev pub wrong_length : PolicyTable → Option Members → Option RowKey
wrong_length which None = None
wrong_length which (Some ms) = row_length which ms

-- ---- why a table, a text or octets say no policy

-- the table has the keys of a policy, and this is the first fault of its rows
abbrev pub HasRowFault : Members → PolicyFault → Type 0
HasRowFault ms e = HasKeys ms × (IsUnread ms e ⊎ IsWrongPolicy ms e)

-- this row of the table is its first fault, and this is wrong of it
abbrev pub IsRowCause : Members → PolicyTable → ℕ → WrongRow → Type 0
IsRowCause ms which row Twice = HasRowFault ms (Duplicate which row)
IsRowCause ms which row (Length wrong) =
    HasRowFault ms (BadLength which row) × (wrong ≡ wrong_length which (row_of which row ms))
IsRowCause ms which row (Field wrong) =
    HasRowFault ms (BadField which row) × (wrong ≡ wrong_field which (row_of which row ms))

-- this is why the table alone says no policy
abbrev pub IsTableCause : Members → PolicyCause → Type 0
IsTableCause ms NoText = ⊥
IsTableCause ms (NoDocument line) = ⊥
IsTableCause ms (Keys wrong) = IsKeysFault ms wrong
IsTableCause ms (Row which row wrong) = IsRowCause ms which row wrong

-- a text is no document, by one of its lines
abbrev pub IsLineCause : List ℕ → PolicyCause → Type 0
IsLineCause text cause = (line : ℕ) × (cause ≡ NoDocument line) × IsLineOf text line

-- the text is no TOML document, or one that says no policy, for this cause
abbrev pub IsTextCause : List ℕ → PolicyCause → Type 0
IsTextCause text cause =
    ((parse_document text ≡ None) × IsLineCause text cause)
    ⊎ ((ms : Members) × (parse_document text ≡ Some ms) × IsTableCause ms cause)

-- The octets are no text, or one that says no policy alone, for this cause: their first fault.
abbrev pub IsCause : List ℕ → PolicyCause → Type 0
IsCause octets cause =
    ((text_of octets ≡ None) × (cause ≡ NoText))
    ⊎ ((text : List ℕ) × (text_of octets ≡ Some text) × IsTextCause text cause)

-- ---- what was read

-- what was read of a table alone: its policy, or why it says none
abbrev pub IsTable : Members → Result PolicyTables PolicyCause → Type 0
IsTable ms (Ok policy) = policy_of_members ms ≡ Some policy
IsTable ms (Err cause) = (policy_of_members ms ≡ None) × IsTableCause ms cause

-- the same of a text
abbrev pub IsText : List ℕ → Result PolicyTables PolicyCause → Type 0
IsText text (Ok policy) = (parse_document text >=> policy_of_members) ≡ Some policy
IsText text (Err cause) =
    ((parse_document text >=> policy_of_members) ≡ None) × IsTextCause text cause

-- the same of octets
abbrev pub IsAlone : List ℕ → Result PolicyTables PolicyCause → Type 0
IsAlone octets (Ok policy) = policy_in octets ≡ Some policy
IsAlone octets (Err cause) = (policy_in octets ≡ None) × IsCause octets cause
