use Rattle.std.proofs.Common.{◌≡◌, ◌∙◌, true, false, [], ◌∷◌, refl, subst, inl}
use Rattle.live_agent.specs.Lines.{run_start_of}
use Rattle.live_laps.specs.Laps.{GoesOn, place_of}
use Rattle.live_laps.specs.Notes.{line_ended}
use Rattle.live_laps.proofs.IntervalLemmas.{interval_more}
use Rattle.live_laps.proofs.interval.WatchedLineTaskIntervalsEnd.run_line.Goals as goal

pub returns-then-not-goes_on-clause-gone : goal.returns-then-not-goes_on-clause-gone
returns-then-not-goes_on-clause-gone g c =
    let over : c.goes_on.result ≡ false = c.if-not-goes_on.true in
    inl (record {
      count = c.loop.counter;
      place = place_of c.loop.watched c.loop.share.amount;
      passed_intervals = c.loop.invariant.passed_intervals;
      closing = c.goes_on.new.watched;
      last = record {
        between = c.pass-end.new.watched;
        interval = c.pass-end.ensures.interval;
        behind = subst (λ answer. GoesOn g.V.Watch.went g.P.Pace.went c.pass-end.new.watched c.goes_on.new.watched c.pass-end.result answer) over c.goes_on.ensures;
      };
      reported = subst (λ name. g.V.Watch.went c.goes_on.new.watched.watch (line_ended name c.pass-end.result ∷ []) c.ended.new.self) c.name-name.ensures c.ended.ensures;
      rest_is = refl;
    })

pub loop-preserved : goal.loop-preserved
loop-preserved g c =
    let s = run_start_of g.L.Run.start c.args.plan.now in
    let rounds = c.args.plan.now.rounds in
    let on : c.goes_on.result ≡ true = c.if-not-goes_on.false in
    record {
      passed_intervals = interval_more g.A.GatedWire.did g.A.Wire.failures g.W.Wire.went g.W.Wire.failures g.T.PacedWire.did g.T.Wire.failures g.C.ControlWire.did g.V.Watch.went g.P.Pace.went s rounds c.loop.counter _ _ _ _ c.loop.invariant.passed_intervals
          (record {
            between = c.pass-end.new.watched;
            interval = c.pass-end.ensures.interval;
            behind = subst (λ answer. GoesOn g.V.Watch.went g.P.Pace.went c.pass-end.new.watched c.goes_on.new.watched c.pass-end.result answer) on c.goes_on.ensures;
          });
      parts = c.pass-end.ensures.parts ∙ c.loop.invariant.parts;
    }
