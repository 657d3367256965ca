use Rattle.std.proofs.Common.{◌≡◌, true, false, rules}
use Rattle.live_agent.specs.Lines.{run_start_of}
use Rattle.live_laps.proofs.Traced.{worked_interval, begun_interval, linked_interval, ticked_interval}
use Rattle.live_laps.proofs.interval.run_interval.Goals as goal

pub returns-in-Worker-clause-interval : goal.returns-in-Worker-clause-interval
returns-in-Worker-clause-interval g c =
    rw c.in-Worker.is (worked_interval g.A.GatedWire.did g.A.Wire.failures g.W.Wire.went g.W.Wire.failures g.T.PacedWire.did g.T.Wire.failures g.C.ControlWire.did (run_start_of g.L.Run.start c.args.plan.now) c.args.plan.now.rounds c.in-Worker.number _ _ _ _ _ _ _ c.new-sum.ensures c.worker_run.ensures.run c.worker_run.ensures.failures (λ is. c.worker_run.ensures.memory is tt))

pub returns-in-Port-default-true-default-clause-interval : goal.returns-in-Port-default-true-default-clause-interval
returns-in-Port-default-true-default-clause-interval g c =
    let begun : c.in-Port-default-true-default.field-1 ≡ true = search rules in
    rw c.in-Port-default-true-default.is (begun_interval g.A.GatedWire.did g.A.Wire.failures g.W.Wire.went g.W.Wire.failures g.T.PacedWire.did g.T.Wire.failures g.C.ControlWire.did (run_start_of g.L.Run.start c.args.plan.now) c.args.plan.now.rounds c.in-Port-default-true-default.number _ _ _ _ _ _ _ _ begun c.new-sum.ensures c.port_interval.ensures.run c.port_interval.ensures.failures (λ is. c.port_interval.ensures.memory is tt))

pub returns-in-Port-clause-interval : goal.returns-in-Port-clause-interval
returns-in-Port-clause-interval g c =
    let not_begun : c.in-Port.is_begun ≡ false = search rules in
    rw c.in-Port.is (linked_interval g.A.GatedWire.did g.A.Wire.failures g.W.Wire.went g.W.Wire.failures g.T.PacedWire.did g.T.Wire.failures g.C.ControlWire.did (run_start_of g.L.Run.start c.args.plan.now) c.args.plan.now.rounds c.in-Port.number _ _ _ _ _ _ _ _ _ not_begun c.new-sum.ensures c.port_run-end.ensures.run c.port_run-end.ensures.failures c.is_first_entered.ensures c.port_run-end.ensures.memory)

pub returns-in-Ticker-clause-interval : goal.returns-in-Ticker-clause-interval
returns-in-Ticker-clause-interval g c =
    rw c.in-Ticker.is (ticked_interval g.A.GatedWire.did g.A.Wire.failures g.W.Wire.went g.W.Wire.failures g.T.PacedWire.did g.T.Wire.failures g.C.ControlWire.did (run_start_of g.L.Run.start c.args.plan.now) c.args.plan.now.rounds _ _ _ _ _ _ _ c.new-sum.ensures c.ticker_run.ensures.run c.ticker_run.ensures.failures (λ is. c.ticker_run.ensures.memory is tt))
