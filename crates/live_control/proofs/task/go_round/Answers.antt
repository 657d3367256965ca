use Rattle.std.proofs.Common.{◌∙◌, refl, arith, rules}
use Rattle.live_control.specs.Turns.{deeds_of}
use Rattle.live_control.proofs.Running.{goes_none, goes_more, goes_stops, goes_round, goes_short}
use Rattle.live_control.proofs.task.go_round.Goals as goal

pub loop-i-init : goal.loop-i-init
loop-i-init g c =
    record {
      goes = goes_none g.W.ControlWire.did g.met.W.ControlWire.deeds_start g.K.ControlRecorder.went g.met.K.ControlRecorder.starts deeds_of _ _ _ _;
      parts = refl;
      space = c.requires.space;
    }

pub returns-in-Some-clause-run : goal.returns-in-Some-clause-run
returns-in-Some-clause-run g c =
    goes_stops g.W.ControlWire.did g.met.W.ControlWire.deeds_go_on g.K.ControlRecorder.went g.met.K.ControlRecorder.goes_on deeds_of _ c.args.plan.now.rounds c.loop-i._i _ _ _ _ _ _ _ _ _ _ c.in-Some.end c.loop-i.invariant.goes c.reserve.ensures.unchanged c.in-Some.ensures.turn (omega arith)

pub loop-i-preserved : goal.loop-i-preserved
loop-i-preserved g c =
    record {
      goes = goes_more g.W.ControlWire.did g.met.W.ControlWire.deeds_go_on g.K.ControlRecorder.went g.met.K.ControlRecorder.goes_on deeds_of _ c.loop-i._i _ _ _ _ _ _ _ _ _ _ c.loop-i.invariant.goes c.reserve.ensures.unchanged c.in_default.ensures.turn;
      parts = c.in_default.ensures.parts ∙ c.loop-i.invariant.parts;
      space = search rules;
    }

pub returns-then-is_err-clause-run : goal.returns-then-is_err-clause-run
returns-then-is_err-clause-run g c =
    goes_short g.W.ControlWire.did g.K.ControlRecorder.went g.met.K.ControlRecorder.goes_on deeds_of _ c.args.plan.now.rounds c.loop-i._i _ _ _ _ _ _ _ c.loop-i.invariant.goes c.reserve.ensures.unchanged (omega arith)

pub returns-clause-run : goal.returns-clause-run
returns-clause-run g c =
    goes_round g.W.ControlWire.did g.K.ControlRecorder.went deeds_of _ c.args.plan.now.rounds c.loop-i._i _ _ _ _ _ _ c.loop-i.invariant.goes (omega arith)
