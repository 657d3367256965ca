use Rattle.std.proofs.Common.{◌≡◌, ◌++◌}
use Rattle.live_agent.specs.Lines.{ticker_deeds}
use Rattle.live_run.proofs.Lining.{line_ran}
use Rattle.live_run.proofs.line_task.AnyLineTaskTickersRan.run_line.Goals as goal

pub returns-clause-gone : goal.returns-clause-gone
returns-clause-gone g c =
    let ran = line_ran (λ a items b. b.items ≡ a.items ++ items) (λ a b items h. h) g.T.PacedWire.did ticker_deeds _ _ _ _ _ _ _ _ _ _ _ c.new-items.ensures.items c.new.ensures.trace c.new.ensures.end c.ticker_run-end.ensures.run in
    (record { run = ran.0; failed = rw c.new.ensures.end c.ticker_run-end.ensures.failures }, ran.1)
