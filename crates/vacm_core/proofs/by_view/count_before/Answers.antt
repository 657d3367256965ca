use Rattle.std.proofs.Common.{rules}
use Rattle.std.proofs.lemmas.List.Sorted.{IsPartitionPoint-from_clause}
use Rattle.vacm_core.specs.Keys.{index_key}
use Rattle.vacm_core.specs.OfView.{index_front, is_before}
use Rattle.vacm_core.proofs.Indexes.{parted_lt}
use Rattle.vacm_core.proofs.by_view.count_before.Goals as goal

pub returns-clause-parted : goal.returns-clause-parted
returns-clause-parted c =
    let rows = c.args.rows.now in
    let index = c.args.index.now in
    let front = index_front c.args.view.now c.args.long in
    IsPartitionPoint-from_clause (is_before rows c.args.view.now c.args.long) index c.partition_point.result c.partition_point.ensures.partitioned (parted_lt index_key rows (0, front) index c.requires.sorted) (λ a r f' k. search rules)
