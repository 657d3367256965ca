use Rattle.std.proofs.Common.{◌-◌, ℕ, List, length, take, drop, subst}
use Rattle.vacm_core.specs.Families.{matches, family_beats}
use Rattle.vacm_core.specs.OfView.{AreOfView}
use Rattle.vacm_core.specs.Orders.{family_order}
use Rattle.vacm_core.specs.Rows.{same_family}
use Rattle.vacm_core.proofs.Ties.{one_only, family_ties}
use Rattle.vacm_core.proofs.OfView.{last_fit, last_covers}
use Rattle.vacm_core.proofs.Unbeaten.{decides}
use Rattle.vacm_core.proofs.by_view.last_of_view.Goals as goal

pub returns-then-is_empty-clause-place : goal.returns-then-is_empty-clause-place
returns-then-is_empty-clause-place c =
    let rows = c.args.rows.now in
    let view = c.args.view.now in
    let name = c.args.name.now in
    let range = c.range_of_view-first.result in
    let numbers = take (range.1 - range.0) (drop range.0 c.args.ranks.index.now) in
    let r = c.last_match.result in
    let are = subst (λ (v : List ℕ). AreOfView rows v (length name) numbers) c.as_bytes.ensures.value c.range_of_view-first.ensures.of_view in
    decides family_order (matches view name) rows
    (one_only (matches view name) family_beats same_family rows c.requires.differ (family_ties view name)) r (last_fit rows view name numbers are r c.last_match.ensures) (last_covers rows view name numbers are r c.last_match.ensures)

pub returns-else-is_empty-clause-place : goal.returns-else-is_empty-clause-place
returns-else-is_empty-clause-place c =
    let rows = c.args.rows.now in
    let view = c.args.view.now in
    let name = c.args.name.now in
    let range = c.range_of_view-first.result in
    let numbers = take (range.1 - range.0) (drop range.0 c.args.ranks.index.now) in
    let r = c.last_of_blocks.result in
    let are = subst (λ (v : List ℕ). AreOfView rows v (length name) numbers) c.as_bytes.ensures.value c.range_of_view-first.ensures.of_view in
    decides family_order (matches view name) rows
    (one_only (matches view name) family_beats same_family rows c.requires.differ (family_ties view name)) r (last_fit rows view name numbers are r c.last_of_blocks.ensures) (last_covers rows view name numbers are r c.last_of_blocks.ensures)
