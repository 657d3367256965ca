use Rattle.std.proofs.Common.{arith}
use Rattle.rstp_rules.specs.Restarts.{after_link}
use Rattle.rstp_core.proofs.Steps.{map_step}
use Rattle.rstp_core.proofs.loops.link_all.Goals as goal

pub loop-row-preserved : goal.loop-row-preserved
loop-row-preserved c = map_step (after_link c.args.port c.args.up) _ _ _ _ _ (omega arith) c.loop-row.auto.rows c.loop-row.invariant c.link.ensures
