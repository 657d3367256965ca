use Rattle.std.proofs.Common.{arith}
use Rattle.rstp_rules.specs.Turns.{with_change_spread_but}
use Rattle.rstp_core.proofs.Steps.{map_step}
use Rattle.rstp_core.proofs.turns.spread_others.Goals as goal

pub loop-row-preserved : goal.loop-row-preserved
loop-row-preserved c = map_step (with_change_spread_but c.args.timing.now c.args.port) _ _ _ _ _ (omega arith) c.loop-row.auto.rows c.loop-row.invariant c.spread_but.ensures
