use Rattle.vacm_core.proofs.FamilyIndexes.{cmp_parts}
use Rattle.vacm_core.proofs.by_index.cmp_rows.Goals as goal

pub returns : goal.returns
returns c =
    let view = c.as_bytes-view.ensures.value in
    let other_view = c.as_bytes-other_view.ensures.value in
    let subtree = c.as_slice-subtree.ensures.value in
    let other_subtree = c.as_slice-other_subtree.ensures.value in
    let whole = cmp_parts c.args.one.now c.args.other.now in
    cc
