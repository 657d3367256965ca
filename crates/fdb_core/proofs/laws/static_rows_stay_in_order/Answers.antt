use Rattle.fdb_core.proofs.StaticKept.{rising_put, rising_without, rising_made, all_made}
use Rattle.fdb_core.proofs.laws.static_rows_stay_in_order.Goals as goal

pub returns-clause-put : goal.returns-clause-put
returns-clause-put c = rising_put

pub returns-clause-removed : goal.returns-clause-removed
returns-clause-removed c = rising_without

pub returns-clause-made : goal.returns-clause-made
returns-clause-made c = rising_made

pub returns-clause-are_made : goal.returns-clause-are_made
returns-clause-are_made c = all_made
