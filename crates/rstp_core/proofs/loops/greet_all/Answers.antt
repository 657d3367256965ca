use Rattle.std.proofs.Common.{arith}
use Rattle.rstp_rules.specs.Ticks.{after_hello_step}
use Rattle.rstp_core.proofs.Steps.{map_step}
use Rattle.rstp_core.proofs.loops.greet_all.Goals as goal

pub loop-row-preserved : goal.loop-row-preserved
loop-row-preserved c = map_step (after_hello_step c.args.context.now.timing) _ _ _ _ _ (omega arith) c.loop-row.auto.rows c.loop-row.invariant c.hello_step.ensures
