use Rattle.std.proofs.Common.{◌-◌, rules, not, length, drop, ◌∙◌, ap, sym, arith}
use Rattle.std.proofs.lemmas.List.{take_all, length-drop}
use Rattle.std.specs.Prelude.{find}
use Rattle.std.proofs.lemmas.List.Sorted.{IsPartitionPoint-from_clause}
use Rattle.fdb_core.proofs.StaticWalk.{greater, parted, greater_from}
use Rattle.fdb_core.proofs.static_rows.next_made_in.Goals as goal

pub returns : goal.returns
returns c =
    let numbers = c.args.numbers.now in
    let rows = c.args.rows.now in
    let point = IsPartitionPoint-from_clause (λ r. not (greater numbers r)) _ _ c.partition_point-from.ensures.partitioned (parted rows c.requires numbers) (λ a r q called. search rules) in
    let rest = greater_from numbers rows c.partition_point-from.result c.partition_point-from.ensures.bound point in
    let from = c.partition_point-from.result in
    let whole = take_all (length rows - from) (drop from rows) (omega (arith, length-drop from rows)) in
    c.first_made.ensures ∙ ap (find (λ r. r.made)) (whole ∙ sym rest)
