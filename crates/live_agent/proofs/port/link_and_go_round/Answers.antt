use Rattle.std.proofs.Common.{inl, inr, subst, Some}
use Rattle.live_agent.specs.Lines.{run_start_of, HasLinked}
use Rattle.live_agent.specs.declared.trace.End.{End}
use Rattle.live_agent.proofs.Recording.{linked_behind}
use Rattle.live_agent.proofs.port.link_and_go_round.Goals as goal

pub returns-in-Some-clause-run : goal.returns-in-Some-clause-run
returns-in-Some-clause-run g c =
    inr (inl (linked_behind g.W.Wire.went g.K.Recorder.went g.met.K.Recorder.goes_on _ c.args.line.now.port _ _ _ _ _ _ _ _ c.reserve.ensures.unchanged c.in-Some.ensures.linked))

pub returns-clause-run : goal.returns-clause-run
returns-clause-run g c =
    inr (inr (record {
      between = c.bring_up.new.wire;
      first_kept = c.bring_up.new.state.recorder;
      first_amount = c.bring_up.new.share.amount;
      linked = linked_behind g.W.Wire.went g.K.Recorder.went g.met.K.Recorder.goes_on _ c.args.line.now.port _ _ _ _ _ _ _ _ c.reserve.ensures.unchanged c.in_default.ensures.linked;
      run = c.go_round.ensures.run;
    }))

pub returns-in-Some-clause-memory : goal.returns-in-Some-clause-memory
returns-in-Some-clause-memory g c = λ is.
    inr (subst (λ (end : End). HasLinked g.W.Wire.went g.K.Recorder.went (run_start_of g.L.Run.start c.args.line.now.plan.now) c.args.line.now.port c.args.wire.now c.bring_up.new.wire c.args.state.now.recorder c.bring_up.new.state.recorder c.args.share.now.amount c.bring_up.new.share.amount (Some end)) is
    (linked_behind g.W.Wire.went g.K.Recorder.went g.met.K.Recorder.goes_on _ c.args.line.now.port _ _ _ _ _ _ _ _ c.reserve.ensures.unchanged c.in-Some.ensures.linked))

pub returns-clause-memory : goal.returns-clause-memory
returns-clause-memory g c = λ is. inl (c.go_round.ensures.memory is)
