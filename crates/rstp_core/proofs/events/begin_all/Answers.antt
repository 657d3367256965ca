use Rattle.std.proofs.Common.{arith, ◌∙◌}
use Rattle.rstp_core.proofs.Steps.{begin_step}
use Rattle.rstp_core.proofs.events.begin_all.Goals as goal

pub loop-i-preserved : goal.loop-i-preserved
loop-i-preserved c = record {
  rows = c.push.ensures.items ∙ begin_step c.args.settings.now c.args.settled.now _ _ _ _ _ _ _ c.requires.config c.loop-i-test.true c.loop-i.invariant.rows c.index-config-i.is (rw c.port-settled.ensures at c.begin.ensures);
  count = omega (arith, c.push.ensures.len, c.loop-i.invariant.count);
}
