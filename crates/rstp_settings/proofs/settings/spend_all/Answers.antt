use Rattle.std.proofs.Common.{arith, refl}
use Rattle.rstp_settings.specs.Table.{without_migration_check, no_values}
use Rattle.rstp_settings.proofs.Puts.{map_step}
use Rattle.rstp_settings.proofs.settings.spend_all.Goals as goal

pub loop-value-preserved : goal.loop-value-preserved
loop-value-preserved c = map_step without_migration_check _ _ _ no_values _ (omega arith) c.loop-value.auto.values c.loop-value.invariant refl
