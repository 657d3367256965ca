use Rattle.std.specs.Prelude.{◌≡◌}
use Rattle.live_agent.specs.Lines.{run_start_of, IsWorkerTurn, worker_deeds}
use Rattle.live_agent.proofs.Running.{Goes}
use Rattle.live_agent.proofs.worker.work_rounds.Given as goal

abbrev pub invariant-loop-i : goal.invariant-loop-i
invariant-loop-i g l =
    record {
      goes : Goes g.W.GatedWire.did g.K.Recorder.went (worker_deeds l.line.worker) (IsWorkerTurn (run_start_of g.L.Run.start l.line.plan.now)) l._i l.initial.wire l.wire l.initial.state.recorder l.state.recorder l.initial.share.amount l.share.amount;
      failures : g.W.Wire.failures l.wire ≡ g.W.Wire.failures l.initial.wire;
      parts : l.share.parts ≡ l.initial.share.parts;
    }
