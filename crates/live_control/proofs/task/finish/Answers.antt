use Rattle.live_sending.specs.Sending.{fault_in}
use Rattle.live_control.specs.Answers.{answer_by}
use Rattle.live_control.proofs.Turning.{answered_by, finished}
use Rattle.live_control.proofs.task.finish.Goals as goal

pub returns-clause-finished : goal.returns-clause-finished
returns-clause-finished g c =
    let plan = c.args.plan.now in
    let bpdus = c.args.state.now.buffer.bpdus in
    let sends = rw (c.bpdus-bpdus.ensures, c.as_slice-peers.ensures.value) at c.send_outgoing-sent.ensures.sends in
    let says = rw c.bpdus-bpdus.ensures at c.answer_to-text.ensures in
    let how = c.send_text-answered.result in
    let answered = answered_by g.W.ControlWire.did _ _ c.args.peer (answer_by plan.source c.args.first.now c.args.applied bpdus) c.answer_to-text.result how says c.send_text-answered.ensures.some c.send_text-answered.ensures.none in
    finished g.W.Wire.went g.W.ControlWire.did g.met.W.ControlWire.acts_are g.met.W.ControlWire.deeds_go_on plan.source plan.peers.items c.args.peer c.args.first.now c.args.applied bpdus _ _ _ (fault_in c.send_outgoing-sent.result) how _ sends answered c.end_after-ends.ensures
