-- The numbers of the security levels (RFC 3411, SnmpSecurityLevel).
use Rattle.std.specs.Prelude.{ℕ}
use Rattle.vacm_core.specs.declared.tables.Level.{Level}
use Rattle.vacm_core.specs.declared.tables.Level.TheVariants.{NoAuthNoPriv, AuthNoPriv, AuthPriv}

abbrev pub level_number : Level → ℕ
level_number NoAuthNoPriv = 1
level_number AuthNoPriv = 2
level_number AuthPriv = 3
