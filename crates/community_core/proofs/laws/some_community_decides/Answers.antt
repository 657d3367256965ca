use Rattle.vacm_core.proofs.Decided.{none_where_none_passes, some_is_unbeaten}
use Rattle.vacm_core.proofs.Ties.{one_only}
use Rattle.community_core.specs.Communities.{has_name, same_index, index_before}
use Rattle.community_core.specs.Orders.{index_order}
use Rattle.community_core.proofs.Indexes.{index_ties}
use Rattle.community_core.proofs.laws.some_community_decides.Goals as goal

pub returns-clause-none : goal.returns-clause-none
returns-clause-none c rows name = none_where_none_passes index_order (has_name name) rows

pub returns-clause-some : goal.returns-clause-some
returns-clause-some c rows name n e = some_is_unbeaten index_order (has_name name) rows n e

pub returns-clause-one : goal.returns-clause-one
returns-clause-one c rows name n m differ x y = one_only (has_name name) index_before same_index rows differ (index_ties name) n m x y
