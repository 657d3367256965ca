use Rattle.std.proofs.Common.{arith}
use Rattle.rstp_rules.specs.Transitions.{after_advance}
use Rattle.rstp_core.proofs.Steps.{map_step}
use Rattle.rstp_core.proofs.loops.advance_all.Goals as goal

pub loop-row-preserved : goal.loop-row-preserved
loop-row-preserved c = map_step (after_advance c.args.context.now c.has_no_recent_root-clear.result) _ _ _ _ _ (omega arith) c.loop-row.auto.rows c.loop-row.invariant c.advance.ensures
