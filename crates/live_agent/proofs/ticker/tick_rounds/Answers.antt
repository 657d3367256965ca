use Rattle.std.proofs.Common.{◌≡◌, ◌∙◌, ◌∷◌, [], Bool, true, false, refl, subst, arith, rules}
use Rattle.live_agent.specs.declared.trace.End.TheVariants as end
use Rattle.live_agent.specs.Deeds.{answered}
use Rattle.live_agent.specs.Lines.{run_start_of, ticker_deeds, IsSecond}
use Rattle.live_agent.specs.Turns.{acts_of}
use Rattle.live_agent.proofs.Running.{goes_none, goes_more, goes_stops, goes_round, goes_short, ends_for_else}
use Rattle.live_agent.proofs.Ticking.{second_turn, pause_turn}
use Rattle.live_agent.proofs.ticker.tick_rounds.Goals as goal

pub loop-i-init : goal.loop-i-init
loop-i-init g c =
    record {
      goes = goes_none g.T.PacedWire.did (λ a. g.met.T.PacedWire.acts_are a a [] (g.met.T.Wire.starts a)) g.K.Recorder.went g.met.K.Recorder.starts ticker_deeds _ _ _ _;
      failures = refl;
      parts = refl;
    }

pub returns-then-not-next-clause-run : goal.returns-then-not-next-clause-run
returns-then-not-next-clause-run g c =
    let says : c.next.result ≡ false = search rules in
    let over = subst (λ (b : Bool). g.T.PacedWire.did c.loop-i.wire (answered b ∷ []) c.next.new.self) says c.next.ensures.did in
    goes_stops g.T.PacedWire.did g.met.T.PacedWire.deeds_go_on g.K.Recorder.went g.met.K.Recorder.goes_on ticker_deeds _ c.args.plan.now.rounds c.loop-i._i _ _ _ _ _ _ _ _ _ _ end.Closed c.loop-i.invariant.goes c.reserve.ensures.unchanged
    (pause_turn g.T.PacedWire.did g.K.Recorder.went g.met.K.Recorder.starts (run_start_of g.L.Run.start c.args.plan.now) c.loop-i.wire c.next.new.self c.reserve.new.self c.loop-i.share.amount over)
    (omega arith)

pub returns-in-Some-clause-run : goal.returns-in-Some-clause-run
returns-in-Some-clause-run g c =
    let s = run_start_of g.L.Run.start c.args.plan.now in
    let says : c.next.result ≡ true = search rules in
    let more = subst (λ (b : Bool). g.T.PacedWire.did c.loop-i.wire (answered b ∷ []) c.next.new.self) says c.next.ensures.did in
    goes_stops g.T.PacedWire.did g.met.T.PacedWire.deeds_go_on g.K.Recorder.went g.met.K.Recorder.goes_on ticker_deeds _ c.args.plan.now.rounds c.loop-i._i _ _ _ _ _ _ _ _ _ _ c.in-Some.end c.loop-i.invariant.goes c.reserve.ensures.unchanged
    (second_turn g.T.Wire.went g.T.PacedWire.did g.K.Recorder.went g.met.T.PacedWire.acts_are g.met.T.PacedWire.deeds_go_on s _ _ _ _ _ _ _ _ more c.in-Some.ensures.turn)
    (omega arith)

pub loop-i-preserved : goal.loop-i-preserved
loop-i-preserved g c =
    let s = run_start_of g.L.Run.start c.args.plan.now in
    let says : c.next.result ≡ true = search rules in
    let more = subst (λ (b : Bool). g.T.PacedWire.did c.loop-i.wire (answered b ∷ []) c.next.new.self) says c.next.ensures.did in
    record {
      goes = goes_more g.T.PacedWire.did g.met.T.PacedWire.deeds_go_on g.K.Recorder.went g.met.K.Recorder.goes_on ticker_deeds _ c.loop-i._i _ _ _ _ _ _ _ _ _ _ c.loop-i.invariant.goes c.reserve.ensures.unchanged
          (second_turn g.T.Wire.went g.T.PacedWire.did g.K.Recorder.went g.met.T.PacedWire.acts_are g.met.T.PacedWire.deeds_go_on s _ _ _ _ _ _ _ _ more c.in_default.ensures.turn);
      failures = c.in_default.ensures.failures ∙ c.next.ensures.kept ∙ c.loop-i.invariant.failures;
      parts = c.in_default.ensures.parts ∙ c.loop-i.invariant.parts;
    }

pub returns-then-is_err-clause-run : goal.returns-then-is_err-clause-run
returns-then-is_err-clause-run g c =
    goes_short g.T.PacedWire.did g.K.Recorder.went g.met.K.Recorder.goes_on ticker_deeds _ c.args.plan.now.rounds c.loop-i._i _ _ _ _ _ _ _ c.loop-i.invariant.goes c.reserve.ensures.unchanged (omega arith)

pub returns-clause-run : goal.returns-clause-run
returns-clause-run g c =
    goes_round g.T.PacedWire.did g.K.Recorder.went ticker_deeds _ c.args.plan.now.rounds c.loop-i._i _ _ _ _ _ _ c.loop-i.invariant.goes (omega arith)

pub returns-in-Some-clause-memory : goal.returns-in-Some-clause-memory
returns-in-Some-clause-memory g c = λ is _.
    ends_for_else g.T.Wire.went g.K.Recorder.went acts_of (IsSecond (run_start_of g.L.Run.start c.args.plan.now)) _ _ _ _ _ _ c.in-Some.end c.in-Some.ensures.turn is
