use Rattle.bridge_core.proofs.RunLaws.{bridge_goes, run_goes}
use Rattle.bridge_core.proofs.laws.frames_go_out_by_active_ports.Goals as goal

pub returns-clause-legal : goal.returns-clause-legal
returns-clause-legal c = bridge_goes

pub returns-clause-run : goal.returns-clause-run
returns-clause-run c = run_goes
