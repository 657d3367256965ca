use Rattle.setphase_core.proofs.Opened.{objects_count, objects_accepted, objects_named}
use Rattle.setphase_core.proofs.laws.objects_are_accepted.Goals as goal

pub returns-clause-count : goal.returns-clause-count
returns-clause-count c = objects_count

pub returns-clause-accepted : goal.returns-clause-accepted
returns-clause-accepted c = objects_accepted

pub returns-clause-named : goal.returns-clause-named
returns-clause-named c = objects_named
