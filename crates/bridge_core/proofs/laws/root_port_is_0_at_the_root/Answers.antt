use Rattle.bridge_core.proofs.RunLaws.{bridge_root, bridge_no_root, run_root, run_no_root}
use Rattle.bridge_core.proofs.laws.root_port_is_0_at_the_root.Goals as goal

pub returns-clause-legal : goal.returns-clause-legal
returns-clause-legal c = bridge_root

pub returns-clause-run : goal.returns-clause-run
returns-clause-run c = run_root

pub returns-clause-legal_none : goal.returns-clause-legal_none
returns-clause-legal_none c = bridge_no_root

pub returns-clause-none : goal.returns-clause-none
returns-clause-none c = run_no_root
