use Rattle.std.proofs.Common.{◌≡◌, ◌++◌, map, take, drop}
use Rattle.rstp_settings.specs.Table.{without_migration_check}
use Rattle.rstp_settings.proofs.settings.spend_all.Given as goal

abbrev pub invariant-loop-value : goal.invariant-loop-value
invariant-loop-value l = l.values ≡ map without_migration_check (take l.value-index l.fn.values) ++ drop l.value-index l.fn.values
