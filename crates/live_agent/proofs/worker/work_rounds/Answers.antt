use Rattle.std.proofs.Common.{◌∙◌, [], refl, arith}
use Rattle.live_agent.specs.Lines.{worker_deeds}
use Rattle.live_agent.proofs.Running.{goes_none, goes_more, goes_stops, goes_round, goes_short, ends_for_else}
use Rattle.live_agent.proofs.worker.work_rounds.Goals as goal

pub loop-i-init : goal.loop-i-init
loop-i-init g c =
    record {
      goes = goes_none g.W.GatedWire.did (λ a. g.met.W.GatedWire.acts_are a a [] (g.met.W.Wire.starts a)) g.K.Recorder.went g.met.K.Recorder.starts (worker_deeds c.args.line.now.worker) _ _ _ _;
      failures = refl;
      parts = refl;
    }

pub returns-in-Some-clause-run : goal.returns-in-Some-clause-run
returns-in-Some-clause-run g c =
    goes_stops g.W.GatedWire.did g.met.W.GatedWire.deeds_go_on g.K.Recorder.went g.met.K.Recorder.goes_on (worker_deeds c.args.line.now.worker) _ c.args.line.now.plan.now.rounds c.loop-i._i _ _ _ _ _ _ _ _ _ _ c.in-Some.end c.loop-i.invariant.goes c.reserve.ensures.unchanged c.in-Some.ensures.turn (omega arith)

pub loop-i-preserved : goal.loop-i-preserved
loop-i-preserved g c =
    record {
      goes = goes_more g.W.GatedWire.did g.met.W.GatedWire.deeds_go_on g.K.Recorder.went g.met.K.Recorder.goes_on (worker_deeds c.args.line.now.worker) _ c.loop-i._i _ _ _ _ _ _ _ _ _ _ c.loop-i.invariant.goes c.reserve.ensures.unchanged c.in_default.ensures.turn;
      failures = c.in_default.ensures.failures ∙ c.loop-i.invariant.failures;
      parts = c.in_default.ensures.parts ∙ c.loop-i.invariant.parts;
    }

pub returns-then-is_err-clause-run : goal.returns-then-is_err-clause-run
returns-then-is_err-clause-run g c =
    goes_short g.W.GatedWire.did g.K.Recorder.went g.met.K.Recorder.goes_on (worker_deeds c.args.line.now.worker) _ c.args.line.now.plan.now.rounds c.loop-i._i _ _ _ _ _ _ _ c.loop-i.invariant.goes c.reserve.ensures.unchanged (omega arith)

pub returns-clause-run : goal.returns-clause-run
returns-clause-run g c =
    goes_round g.W.GatedWire.did g.K.Recorder.went (worker_deeds c.args.line.now.worker) _ c.args.line.now.plan.now.rounds c.loop-i._i _ _ _ _ _ _ c.loop-i.invariant.goes (omega arith)

pub returns-in-Some-clause-memory : goal.returns-in-Some-clause-memory
returns-in-Some-clause-memory g c = λ is _.
    ends_for_else g.W.GatedWire.did g.K.Recorder.went (worker_deeds c.args.line.now.worker) _ _ _ _ _ _ _ c.in-Some.end c.in-Some.ensures.turn is
