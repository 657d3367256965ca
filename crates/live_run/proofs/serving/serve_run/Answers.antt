use Rattle.live_run.proofs.Answering.{answered}
use Rattle.live_run.proofs.serving.serve_run.Goals as goal

pub returns : goal.returns
returns g c =
    let ran = c.run_from-kept.ensures in
    answered g.A.GatedWire.did g.A.Wire.failures g.W.Wire.went g.W.Wire.failures g.T.PacedWire.did g.T.Wire.failures c.args.plan.now c.args.kept c.run_from-kept.result.0 c.args.lines c.run_from-kept.result.1 c.run_from-kept.result.2
    (record { crew = ran.crew; held = ran.held; legal = ran.legal }) c.judge-report.result c.judge-report.ensures
