use Rattle.std.proofs.Common.{◌-◌, ◌<◌, ◌≤◌, length, ap, sym, ◌∙◌, arith}
use Rattle.std.proofs.lemmas.List.{get_or_default}
use Rattle.vacm_core.specs.Keys.{index_key}
use Rattle.vacm_core.specs.OfView.{index_front, is_before}
use Rattle.vacm_core.proofs.Indexes.{parted_lt}
use Rattle.vacm_core.proofs.by_view.are_before.Goals as goal

pub returns-else-place-eq0 : goal.returns-else-place-eq0
returns-else-place-eq0 c before k d lt =
    let rows = c.args.rows.now in
    let index = c.args.index.now in
    let view = c.args.view.now in
    let last = c.args.place - 1 in
    let inside : last < length index = omega (arith, c.if-place-eq0.false, c.requires.within) in
    let under : k ≤ last = omega (arith, lt) in
    parted_lt index_key rows (0, index_front view c.args.long) index c.requires.index.sorted k last d under inside
    (ap (is_before rows view c.args.long) (get_or_default index last d 0 inside) ∙ sym c.is_before.ensures ∙ before)
