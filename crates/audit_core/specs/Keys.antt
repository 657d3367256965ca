-- The keys of rows of vacmViewTreeFamilyTable: its INDEX clause (RFC 3415, section 4).
use Rattle.vacm_core.specs.declared.tables.FamilyRow.{FamilyRow}
use Rattle.audit_core.specs.declared.keys.FamilyKey.{FamilyKey}

-- view and subtree
abbrev pub family_key : FamilyRow → FamilyKey
family_key row = record { view = row.view; subtree = row.subtree }
