use Rattle.std.proofs.Common.{ℕ, ◌-◌, List, length, sym, subst, arith}
use Rattle.std.proofs.lemmas.List.{take_all}
use Rattle.vacm_core.specs.OfView.{AreOfView}
use Rattle.vacm_core.proofs.OfView.{all_of_view, in_turn, part_of_view}
use Rattle.vacm_core.proofs.by_view.range_of_view.Goals as goal

pub returns-then-index-le-SHORT_INDEX-clause-of_view : goal.returns-then-index-le-SHORT_INDEX-clause-of_view
returns-then-index-le-SHORT_INDEX-clause-of_view c =
    let index = c.args.ranks.index.now in
    subst (AreOfView c.args.rows.now c.args.view.now c.args.most) (sym {A = List ℕ} (take_all (length index - 0) index (omega arith)))
    (all_of_view c.args.rows.now c.args.view.now c.args.most index c.requires.index)

pub returns-clause-order : goal.returns-clause-order
returns-clause-order c =
    let first = c.count_before-first in
    let end = c.count_before-end in
    in_turn c.args.rows.now c.args.view.now c.args.most c.args.ranks.index.now c.requires.index first.result end.result first.ensures.bound end.ensures.bound first.ensures.parted end.ensures.parted

pub returns-clause-of_view : goal.returns-clause-of_view
returns-clause-of_view c =
    let first = c.count_before-first in
    let end = c.count_before-end in
    part_of_view c.args.rows.now c.args.view.now c.args.most c.args.ranks.index.now c.requires.index first.result end.result first.ensures.bound end.ensures.bound first.ensures.parted end.ensures.parted
