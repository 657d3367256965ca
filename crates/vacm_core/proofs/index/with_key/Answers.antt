use Rattle.std.proofs.Common.{ℕ, ◌-◌, ◌<◌, Bool, List, length, take, drop, rules}
use Rattle.std.specs.Ordering.{is_lt, is_le}
use Rattle.std.proofs.lemmas.List.Sorted.{IsPartitionPoint-from_clause}
use Rattle.vacm_core.specs.Keys.{key_cmp, key_at}
use Rattle.vacm_core.proofs.Indexes.{parted_lt, parted_le, found_within, found_only, found_all}
use Rattle.vacm_core.proofs.index.with_key.Goals as goal

pub returns-clause-within : goal.returns-clause-within
returns-clause-within g c =
    found_within c.args.index.now c.partition_point-first.result c.partition_point-end.result (λ n. n < length c.args.rows.now) c.requires.within

pub returns-clause-only : goal.returns-clause-only
returns-clause-only g c =
    let key = g.R.Keyed.key in
    let rows = c.args.rows.now in
    let asked : ℕ × List ℕ = (c.args.number, c.args.name.now) in
    let numbers = c.args.index.now in
    let first = c.partition_point-first.result in
    let lower : ℕ → Bool = λ n. is_lt (key_cmp (key_at key rows n) asked) in
    let upper : ℕ → Bool = λ n. is_le (key_cmp (key_at key rows n) asked) in
    let mid : List ℕ = take (length numbers - first) (drop first numbers) in
    found_only key rows asked numbers first c.partition_point-end.result
    (IsPartitionPoint-from_clause lower numbers first c.partition_point-first.ensures.partitioned (parted_lt key rows asked numbers c.requires.sorted) (λ a r f' k. search rules))
    (IsPartitionPoint-from_clause upper mid c.partition_point-end.result c.partition_point-end.ensures.partitioned (parted_le key rows asked numbers first c.requires.sorted) (λ a r f' k. search rules))

pub returns-clause-all : goal.returns-clause-all
returns-clause-all g c =
    let key = g.R.Keyed.key in
    let rows = c.args.rows.now in
    let asked : ℕ × List ℕ = (c.args.number, c.args.name.now) in
    let numbers = c.args.index.now in
    let first = c.partition_point-first.result in
    let lower : ℕ → Bool = λ n. is_lt (key_cmp (key_at key rows n) asked) in
    let upper : ℕ → Bool = λ n. is_le (key_cmp (key_at key rows n) asked) in
    let mid : List ℕ = take (length numbers - first) (drop first numbers) in
    found_all key rows asked numbers first c.partition_point-end.result
    (IsPartitionPoint-from_clause lower numbers first c.partition_point-first.ensures.partitioned (parted_lt key rows asked numbers c.requires.sorted) (λ a r f' k. search rules))
    (IsPartitionPoint-from_clause upper mid c.partition_point-end.result c.partition_point-end.ensures.partitioned (parted_le key rows asked numbers first c.requires.sorted) (λ a r f' k. search rules))
    c.requires.all
