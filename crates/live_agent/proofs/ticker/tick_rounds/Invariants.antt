use Rattle.std.specs.Prelude.{◌≡◌}
use Rattle.live_agent.specs.Lines.{run_start_of, IsTickerTurn, ticker_deeds}
use Rattle.live_agent.proofs.Running.{Goes}
use Rattle.live_agent.proofs.ticker.tick_rounds.Given as goal

abbrev pub invariant-loop-i : goal.invariant-loop-i
invariant-loop-i g l =
    record {
      goes : Goes g.T.PacedWire.did g.K.Recorder.went ticker_deeds (IsTickerTurn (run_start_of g.L.Run.start l.plan)) l._i l.initial.wire l.wire l.initial.state.recorder l.state.recorder l.initial.share.amount l.share.amount;
      failures : g.T.Wire.failures l.wire ≡ g.T.Wire.failures l.initial.wire;
      parts : l.share.parts ≡ l.initial.share.parts;
    }
