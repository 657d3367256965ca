use Rattle.std.proofs.Common.{arith}
use Rattle.rstp_rules.specs.Arrivals.{after_reception}
use Rattle.rstp_core.proofs.Steps.{map_step}
use Rattle.rstp_core.proofs.loops.receive_all.Goals as goal

pub loop-row-preserved : goal.loop-row-preserved
loop-row-preserved c = map_step (after_reception c.args.own c.args.rstp c.args.port c.args.bpdu.now) _ _ _ _ _ (omega arith) c.loop-row.auto.rows c.loop-row.invariant c.receive.ensures
