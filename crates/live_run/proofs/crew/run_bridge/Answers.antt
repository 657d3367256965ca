use Rattle.std.proofs.Common.{◌+◌, refl, arith}
use Rattle.live_agent.specs.Lines.{run_start_of}
use Rattle.live_run.specs.Crews.{PortRan}
use Rattle.live_run.proofs.Lining.{all_ran}
use Rattle.live_run.proofs.crew.run_bridge.Goals as goal

pub returns-clause-ports : goal.returns-clause-ports
returns-clause-ports g c =
    (all_ran (PortRan g.W.Wire.went g.W.Wire.failures (run_start_of g.L.Run.start c.args.plan.now) c.args.plan.now.rounds) (λ place. place + 1) (λ place. refl) 0 _ _ _ _ _ c.join-passed.ensures.first.all_gone).0

pub returns-clause-amount : goal.returns-clause-amount
returns-clause-amount g c =
    let theirs = c.split_off-theirs.ensures in
    let passed = (all_ran (PortRan g.W.Wire.went g.W.Wire.failures (run_start_of g.L.Run.start c.args.plan.now) c.args.plan.now.rounds) (λ place. place + 1) (λ place. refl) 0 _ _ _ _ _ c.join-passed.ensures.first.all_gone).1 in
    omega (arith, passed, theirs.amount, theirs.amount_left, c.join-passed.ensures.second.0.1, c.merge.ensures.amount)
