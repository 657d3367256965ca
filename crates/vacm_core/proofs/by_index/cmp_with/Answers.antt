use Rattle.std.proofs.Common.{◌≡◌, ◌∷◌, ℕ, length, Option, Some, ap, sym, ◌∙◌}
use Rattle.std.specs.Cmp.Lexicographic.{slice_cmp}
use Rattle.std.specs.List.{slice_get}
use Rattle.std.specs.Ordering.{nat_cmp}
use Rattle.std.proofs.lemmas.Option.{slice_get-get_or}
use Rattle.vacm_core.specs.declared.tables.FamilyRow.{FamilyRow}
use Rattle.vacm_core.specs.FamilyIndex.{family_index}
use Rattle.vacm_core.specs.Keys.{key_cmp, key_or, index_key}
use Rattle.vacm_core.proofs.FamilyIndexes.{cmp_behind}
use Rattle.vacm_core.proofs.by_index.cmp_with.Goals as goal

pub returns-in-Some-behind_view : goal.returns-in-Some-behind_view
returns-in-Some-behind_view c =
    let numbers = c.args.numbers.now in
    let row = c.in-Some.row.now in
    let found = c.in-Some.ensures.lookup.3 in
    let here : slice_get c.args.rows.now c.args.n ≡ Some row = slice_get-get_or c.args.rows.now c.args.n row found.0 ∙ ap Some (sym (found.1 row)) in
    c.cmp_subtree.ensures
    ∙ sym (cmp_behind (length row.view) row.view (length row.subtree ∷ row.subtree) c.in-Some-behind_view.rest.now)
    ∙ ap (slice_cmp nat_cmp (family_index row)) (sym c.in-Some-behind_view.ensures)
    ∙ ap (λ (o : Option FamilyRow). key_cmp (key_or index_key o) (0, numbers)) (sym here)

pub returns-in-None : goal.returns-in-None
returns-in-None c =
    let numbers = c.args.numbers.now in
    let row = c.in-Some.row.now in
    let found = c.in-Some.ensures.lookup.3 in
    let here : slice_get c.args.rows.now c.args.n ≡ Some row = slice_get-get_or c.args.rows.now c.args.n row found.0 ∙ ap Some (sym (found.1 row)) in
    c.cmp_index.ensures ∙ ap (λ (o : Option FamilyRow). key_cmp (key_or index_key o) (0, numbers)) (sym here)
