use Rattle.fdb_core.proofs.StaticFound.{its_own, others_keep, none_left, others_left, found_index, same_tables}
use Rattle.fdb_core.proofs.laws.static_rows_are_a_finite_map.Goals as goal

pub returns-clause-put : goal.returns-clause-put
returns-clause-put c = its_own

pub returns-clause-put_others : goal.returns-clause-put_others
returns-clause-put_others c = others_keep

pub returns-clause-removed : goal.returns-clause-removed
returns-clause-removed c = none_left

pub returns-clause-removed_others : goal.returns-clause-removed_others
returns-clause-removed_others c = others_left

pub returns-clause-index : goal.returns-clause-index
returns-clause-index c = found_index

pub returns-clause-same : goal.returns-clause-same
returns-clause-same c = same_tables
