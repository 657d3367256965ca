use Rattle.std.specs.Prelude.{◌≡◌}
use Rattle.live_agent.specs.Lines.{run_start_of, IsPortTurn}
use Rattle.live_agent.specs.Turns.{acts_of}
use Rattle.live_agent.proofs.Running.{Goes}
use Rattle.live_agent.proofs.port.go_round.Given as goal

abbrev pub invariant-loop-i : goal.invariant-loop-i
invariant-loop-i g l =
    record {
      goes : Goes g.W.Wire.went g.K.Recorder.went acts_of (IsPortTurn (run_start_of g.L.Run.start l.line.plan.now) l.line.port) l._i l.initial.wire l.wire l.initial.state.recorder l.state.recorder l.initial.share.amount l.share.amount;
      failures : g.W.Wire.failures l.wire ≡ g.W.Wire.failures l.initial.wire;
      parts : l.share.parts ≡ l.initial.share.parts;
    }
