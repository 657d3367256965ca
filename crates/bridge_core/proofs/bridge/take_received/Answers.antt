use Rattle.bridge_core.specs.Events.{bpdu_result}
use Rattle.bridge_core.proofs.bridge.take_received.Goals as goal

pub returns-in-Some-clause-gives : goal.returns-in-Some-clause-gives
unfolding bpdu_result
returns-in-Some-clause-gives c = rw c.in-Some.is (record {
  step = c.hear.ensures.step;
  egress = c.new.ensures;
  bpdus = c.hear.ensures.bpdus;
  ports = c.hear.ensures.ports;
  each = c.hear.ensures.each;
})
