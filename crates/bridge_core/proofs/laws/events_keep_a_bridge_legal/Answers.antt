use Rattle.bridge_core.proofs.RunLaws.{opening_is_legal, after_legal, run_legal}
use Rattle.bridge_core.proofs.laws.events_keep_a_bridge_legal.Goals as goal

pub returns-clause-opening : goal.returns-clause-opening
returns-clause-opening c = opening_is_legal

pub returns-clause-event : goal.returns-clause-event
returns-clause-event c = after_legal

pub returns-clause-run : goal.returns-clause-run
returns-clause-run c = run_legal
