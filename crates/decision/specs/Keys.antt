-- The keys of rows of vacmAccessTable: its INDEX clause (RFC 3415, section 4).
use Rattle.vacm_core.specs.declared.tables.AccessRow.{AccessRow}
use Rattle.decision.specs.declared.keys.AccessKey.{AccessKey}

-- group, context prefix, security model and level
abbrev pub access_key : AccessRow → AccessKey
access_key row =
    record { group = row.group; prefix = row.prefix; model = row.model; level = row.level }
