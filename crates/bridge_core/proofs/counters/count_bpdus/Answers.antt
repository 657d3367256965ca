use Rattle.bridge_core.specs.Counting.{has_bpdu}
use Rattle.bridge_core.proofs.Counts.{count_step, sends_at, sent_whole}
use Rattle.bridge_core.proofs.counters.count_bpdus.Goals as goal

pub loop-i-preserved : goal.loop-i-preserved
loop-i-preserved c = count_step (has_bpdu c.args.bpdus.now) _ _ c.loop-i.i _ c.is_some.result c.loop-i-test.true c.loop-i.invariant (sends_at c.args.bpdus.now c.loop-i.i c.is_some.result c.is_some.ensures) c.send.ensures

pub returns : goal.returns
returns c = sent_whole (has_bpdu c.args.bpdus.now) _ _ c.loop-i.i c.loop-i-test.false c.loop-i.invariant
