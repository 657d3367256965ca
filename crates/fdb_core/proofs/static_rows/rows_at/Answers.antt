use Rattle.std.proofs.Common.{◌≡◌, true, rules, not, List, ◌∙◌, ap, sym, subst}
use Rattle.std.specs.List.{AllByRecursion}
use Rattle.std.proofs.lemmas.List.Sorted.{IsPartitionPoint-from_clause}
use Rattle.std.proofs.lemmas.List.Kept.{IsStrictlySortedBy-filter}
use Rattle.fdb_core.specs.declared.static_row.StaticRow.{StaticRow}
use Rattle.fdb_core.specs.StaticPlaces.{is_from}
use Rattle.fdb_core.specs.Statics.{IsRising, rows_of}
use Rattle.fdb_core.proofs.StaticWalk.{parted}
use Rattle.fdb_core.proofs.StaticOf.{those_from, all_from, of_those_from}
use Rattle.fdb_core.proofs.static_rows.rows_at.Goals as goal

-- the rows from the place on are those of the address and those behind
pub count_of-count-requires-clause-rising : goal.count_of-count-requires-clause-rising
count_of-count-requires-clause-rising c =
    let found = c.partition_point-from.ensures in
    let point = IsPartitionPoint-from_clause (λ r. not (is_from c.args.address r.index)) _ _ found.partitioned (parted c.args.rows.now c.requires c.args.address.0) (λ a r q called. search rules) in
    subst IsRising (sym (those_from c.args.address c.args.rows.now c.partition_point-from.result found.bound point)) (IsStrictlySortedBy-filter _ _ c.args.rows.now c.requires)

pub count_of-count-requires-clause-from : goal.count_of-count-requires-clause-from
count_of-count-requires-clause-from c =
    let found = c.partition_point-from.ensures in
    let point = IsPartitionPoint-from_clause (λ r. not (is_from c.args.address r.index)) _ _ found.partitioned (parted c.args.rows.now c.requires c.args.address.0) (λ a r q called. search rules) in
    subst (λ (xs : List StaticRow). AllByRecursion (λ r. is_from c.args.address r.index ≡ true) xs) (sym (those_from c.args.address c.args.rows.now c.partition_point-from.result found.bound point)) (all_from c.args.address c.args.rows.now)

pub returns : goal.returns
returns c =
    let found = c.partition_point-from.ensures in
    let point = IsPartitionPoint-from_clause (λ r. not (is_from c.args.address r.index)) _ _ found.partitioned (parted c.args.rows.now c.requires c.args.address.0) (λ a r q called. search rules) in
    let rest = those_from c.args.address c.args.rows.now c.partition_point-from.result found.bound point in
    c.count_of-count.ensures.rows ∙ (ap (λ (xs : List StaticRow). rows_of xs c.args.address) rest ∙ sym (of_those_from c.args.address c.args.rows.now))
