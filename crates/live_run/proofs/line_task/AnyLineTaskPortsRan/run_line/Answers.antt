use Rattle.std.proofs.Common.{◌≡◌, ◌++◌}
use Rattle.live_agent.specs.Kept.{added_more}
use Rattle.live_run.proofs.Lining.{port_ran}
use Rattle.live_run.proofs.line_task.AnyLineTaskPortsRan.run_line.Goals as goal

pub returns-clause-gone : goal.returns-clause-gone
returns-clause-gone g c =
    let ran = port_ran (λ a items b. b.items ≡ a.items ++ items) (λ a b items h. h) g.W.Wire.went (λ a b c xs ys. added_more a.items b.items c.items xs ys) _ _ _ _ _ _ _ _ _ _ _ _ c.new-items.ensures.items c.new.ensures.trace c.new.ensures.end c.port_run-end.ensures.run in
    (record { run = ran.0; failed = rw c.new.ensures.end c.port_run-end.ensures.failures }, ran.1)
