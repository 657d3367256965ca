use Rattle.std.proofs.Common.{◌≡◌, ℕ, true, List, ◌++◌, sym, subst, ◌∙◌, arith}
use Rattle.std.specs.Cmp.Lexicographic.{same_text}
use Rattle.std.proofs.lemmas.Option.{get_or_from_slice_get, slice_get_within, same_Some}
use Rattle.vacm_core.specs.declared.tables.FamilyRow.{FamilyRow}
use Rattle.vacm_core.specs.Rows.{same_family}
use Rattle.vacm_core.specs.Families.{matches, family_beats}
use Rattle.vacm_core.specs.Orders.{family_order}
use Rattle.vacm_core.specs.Trees.{reaches, fits, view_way, subtree_way, Covers, IsPlaced}
use Rattle.vacm_core.proofs.Agrees.{and_true}
use Rattle.vacm_core.proofs.Ties.{one_only, family_ties}
use Rattle.vacm_core.proofs.FamilyWays.{fits_way}
use Rattle.vacm_core.proofs.Unbeaten.{decides}
use Rattle.vacm_core.proofs.families.walked.Goals as goal

pub returns-else-left-eq0-clause-place : goal.returns-else-left-eq0-clause-place
returns-else-left-eq0-clause-place c found is =
    let tree = c.args.tree.now in
    let rows : List FamilyRow = c.args.rows.now in
    let view = c.args.view.now in
    let name = c.args.name.now in
    let best = c.best_below-best in
    let asked = c.as_slice.ensures.value ∙ c.put_numbers.ensures in
    let all : (n : ℕ) → Covers (matches view name) family_beats rows best.result n = λ n row at pass.
    let parts = and_true _ _ pass in
    let placed = subst (λ (r : FamilyRow). IsPlaced (reaches tree) r n) (get_or_from_slice_get rows n row row at) (c.requires.tree n row (slice_get_within rows n row at)) in
    let way = view_way view ++ subtree_way 0 row.mask row.subtree in
    let there = subst (λ (v : List ℕ). reaches tree (view_way v ++ subtree_way 0 row.mask row.subtree) n ≡ true) (same_text row.view view (sym parts.0)) placed.leads in
    let fit = subst (λ (l : List ℕ). fits way l ≡ true) (sym asked) (fits_way view row.mask row.subtree name parts.1) in
    best.ensures.found (omega (arith, c.if-left-eq0.false)) way n there fit row at pass in
    sym (same_Some best.result found is)
    ∙ decides family_order (matches view name) rows
    (one_only (matches view name) family_beats same_family rows c.requires.differ (family_ties view name)) best.result best.ensures.later.fit all
