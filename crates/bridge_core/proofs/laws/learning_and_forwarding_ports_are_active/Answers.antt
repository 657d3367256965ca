use Rattle.bridge_core.proofs.RunLaws.{bridge_active, run_active}
use Rattle.bridge_core.proofs.laws.learning_and_forwarding_ports_are_active.Goals as goal

pub returns-clause-legal : goal.returns-clause-legal
returns-clause-legal c = bridge_active

pub returns-clause-run : goal.returns-clause-run
returns-clause-run c = run_active
