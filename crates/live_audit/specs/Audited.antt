-- Whether the requests of a worker are audited.
use Rattle.std.specs.Prelude.{Bool, true, false}
use Rattle.live_audit.specs.declared.auditing.Auditing.{Auditing}
use Rattle.live_audit.specs.declared.auditing.Auditing.TheVariants.{Off, On}

abbrev pub is_audited : Auditing → Bool
is_audited Off = false
is_audited (On audits) = true
