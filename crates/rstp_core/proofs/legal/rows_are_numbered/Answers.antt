use Rattle.rstp_core.proofs.Numbered.{rows_numbered, turns_numbered}
use Rattle.rstp_core.proofs.legal.rows_are_numbered.Goals as goal

pub returns-clause-begun : goal.returns-clause-begun
returns-clause-begun c = rows_numbered

pub returns-clause-turns : goal.returns-clause-turns
returns-clause-turns c = turns_numbered
