use Rattle.std.proofs.Common.{arith}
use Rattle.rstp_rules.specs.Arrivals.{after_change_notice}
use Rattle.rstp_core.proofs.Steps.{map_step}
use Rattle.rstp_core.proofs.loops.signal_all.Goals as goal

pub loop-row-preserved : goal.loop-row-preserved
loop-row-preserved c = map_step (after_change_notice c.args.timing.now c.args.own c.args.port c.args.bpdu.now c.has_news-change.result) _ _ _ _ _ (omega arith) c.loop-row.auto.rows c.loop-row.invariant c.hear_change.ensures
