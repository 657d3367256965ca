use Rattle.std.proofs.Common.{◌≡◌}
use Rattle.live_agent.specs.Lines.{run_start_of}
use Rattle.live_laps.specs.Laps.{HasPassedIntervals, place_of}
use Rattle.live_laps.proofs.interval.WatchedLineTaskIntervalsEnd.run_line.Given as goal

-- the intervals so far, behind each of which the line went on
abbrev pub invariant-loop : goal.invariant-loop
invariant-loop g l = record {
  passed_intervals : HasPassedIntervals g.A.GatedWire.did g.A.Wire.failures g.W.Wire.went g.W.Wire.failures g.T.PacedWire.did g.T.Wire.failures g.C.ControlWire.did g.V.Watch.went g.P.Pace.went (run_start_of g.L.Run.start l.fn.plan)
      l.fn.plan.rounds l.counter (place_of l.fn.self l.fn.share.amount)
      (place_of l.watched l.share.amount);
  parts : l.share.parts ≡ l.fn.share.parts;
}
