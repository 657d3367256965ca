use Rattle.std.proofs.Common.{ℕ, Bool, rules}
use Rattle.std.specs.Ordering.{is_le}
use Rattle.std.proofs.lemmas.List.Sorted.{IsPartitionPoint-from_clause}
use Rattle.vacm_core.specs.Keys.{key_cmp, key_at, index_key}
use Rattle.vacm_core.proofs.FamilyIndexes.{next_found}
use Rattle.vacm_core.proofs.Indexes.{parted_upto}
use Rattle.vacm_core.proofs.by_index.next_family.Goals as goal

pub returns-clause-place : goal.returns-clause-place
returns-clause-place c =
    let rows = c.args.rows.now in
    let index = c.args.index.now in
    let asked = c.args.numbers.now in
    let upto : ℕ → Bool = λ n. is_le (key_cmp (key_at index_key rows n) (0, asked)) in
    let end = c.partition_point-end.result in
    let point = IsPartitionPoint-from_clause upto index end c.partition_point-end.ensures.partitioned (parted_upto index_key rows (0, asked) index c.requires.index.sorted)
    (λ a r f' k. search rules) in
    next_found rows asked index c.requires.index end point c.requires.differ c.number_at.result c.number_at.ensures
