use Rattle.std.proofs.Common.{arith}
use Rattle.rstp_rules.specs.Restarts.{after_settling}
use Rattle.rstp_core.proofs.Steps.{map_step}
use Rattle.rstp_core.proofs.loops.settle_all.Goals as goal

pub loop-row-preserved : goal.loop-row-preserved
loop-row-preserved c = map_step (after_settling c.args.version_changed) _ _ _ _ _ (omega arith) c.loop-row.auto.rows c.loop-row.invariant c.settle.ensures
