use Rattle.live_agent.specs.Lines.{run_start_of}
use Rattle.live_laps.proofs.Commanding.{commanded, commanded_any}
use Rattle.live_laps.specs.Tallies.{MayAnswer}
use Rattle.live_laps.proofs.commands.command_interval.Goals as goal

pub returns-clause-run : goal.returns-clause-run
returns-clause-run g c =
    commanded g.C.ControlWire.did _ (MayAnswer g.V.Watch.reports c.args.watch.now) (run_start_of g.L.Run.start c.args.plan.now) c.args.plan.now.rounds c.args.ports _ _ _ _ _ _ _ c.control_run-end.ensures.run

pub returns-clause-any : goal.returns-clause-any
returns-clause-any g c =
    commanded_any g.C.ControlWire.did (MayAnswer g.V.Watch.reports c.args.watch.now) (run_start_of g.L.Run.start c.args.plan.now) c.args.plan.now.rounds c.args.ports _ _ _ _ _
    (commanded g.C.ControlWire.did _ (MayAnswer g.V.Watch.reports c.args.watch.now) (run_start_of g.L.Run.start c.args.plan.now) c.args.plan.now.rounds c.args.ports _ _ _ _ _ _ _ c.control_run-end.ensures.run)
