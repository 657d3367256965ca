use Rattle.std.proofs.Common.{◌≡◌, Some, option_map, sym, ap, ◌∙◌}
use Rattle.std.specs.List.{slice_get}
use Rattle.std.proofs.lemmas.Option.{slice_get-get_or}
use Rattle.vacm_core.proofs.Puts.{type_set}
use Rattle.vacm_core.proofs.families.put_type.Goals as goal

pub returns-clause-rows : goal.returns-clause-rows
returns-clause-rows c =
    let rows = c.args.rows.now.items in
    let row = c.index_mut-row.result.now in
    let here : slice_get rows c.args.n ≡ Some row = slice_get-get_or rows c.args.n row c.requires ∙ ap Some (sym c.index_mut-row.ensures.value) in
    sym (type_set rows c.args.n c.args.included row here)

pub returns-clause-before : goal.returns-clause-before
returns-clause-before c =
    let rows = c.args.rows.now.items in
    let row = c.index_mut-row.result.now in
    let here : slice_get rows c.args.n ≡ Some row = slice_get-get_or rows c.args.n row c.requires ∙ ap Some (sym c.index_mut-row.ensures.value) in
    ap (option_map (λ r. r.included)) here
