use Rattle.std.proofs.Common.{refl, arith}
use Rattle.live_agent.specs.Lines.{run_start_of}
use Rattle.live_run.specs.Crews.{WorkerRan}
use Rattle.live_run.proofs.Lining.{all_ran}
use Rattle.live_run.proofs.crew.run_crew.Goals as goal

pub returns-clause-crew : goal.returns-clause-crew
returns-clause-crew g c =
    let bridged = c.join-worked.ensures.second in
    record {
      workers = (all_ran (WorkerRan g.A.GatedWire.did g.A.Wire.failures (run_start_of g.L.Run.start c.args.plan.now) c.args.plan.now.rounds) (λ place. place) (λ place. refl) 0 _ _ _ _ _ c.join-worked.ensures.first.all_gone).0;
      ports = bridged.0;
      ticker = bridged.1.0;
    }

pub returns-clause-amount : goal.returns-clause-amount
returns-clause-amount g c =
    let theirs = c.split_off-theirs.ensures in
    let worked = (all_ran (WorkerRan g.A.GatedWire.did g.A.Wire.failures (run_start_of g.L.Run.start c.args.plan.now) c.args.plan.now.rounds) (λ place. place) (λ place. refl) 0 _ _ _ _ _ c.join-worked.ensures.first.all_gone).1 in
    omega (arith, worked, theirs.amount, theirs.amount_left, c.join-worked.ensures.second.1.1.0, c.merge.ensures.amount)
