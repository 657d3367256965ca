use Rattle.std.proofs.Common.{arith}
use Rattle.rstp_rules.specs.Transitions.{after_first_transitions}
use Rattle.rstp_core.proofs.Steps.{map_step}
use Rattle.rstp_core.proofs.loops.turn_all.Goals as goal

pub loop-row-preserved : goal.loop-row-preserved
loop-row-preserved c = map_step (after_first_transitions c.args.context.now) _ _ _ _ _ (omega arith) c.loop-row.auto.rows c.loop-row.invariant c.turn.ensures
