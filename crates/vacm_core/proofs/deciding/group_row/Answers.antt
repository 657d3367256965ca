use Rattle.std.proofs.Common.{◌≡◌, ◌<◌, All, Contains, option_map, List, ℕ, Some, length, sym, ap, subst, ◌∙◌}
use Rattle.std.proofs.lemmas.Option.{slice_get-get_or}
use Rattle.vacm_core.specs.declared.tables.GroupRow.{GroupRow}
use Rattle.vacm_core.specs.Keys.{group_key, key_at}
use Rattle.vacm_core.proofs.GroupRows.{no_group, some_group, the_group}
use Rattle.vacm_core.proofs.deciding.group_row.Goals as goal

pub returns-in_err-n : goal.returns-in_err-n
returns-in_err-n c =
    let rows : List GroupRow = c.args.rows.now in
    let ask = c.args.ask.now in
    let numbers : List ℕ = c.with_key.result.now in
    let all = subst (λ (l : List ℕ). (n : ℕ) → n < length rows → key_at group_key rows n ≡ (ask.model, l) → Contains numbers n) c.as_bytes.ensures.value c.with_key.ensures.all in
    ap (option_map (λ row. row.now)) c.from_residual.ensures ∙ sym (no_group rows ask.model ask.security numbers all c.in_err-n.ensures.value)

pub returns : goal.returns
returns c =
    let rows : List GroupRow = c.args.rows.now in
    let ask = c.args.ask.now in
    let numbers : List ℕ = c.with_key.result.now in
    let n = c.in_ok-n.n.now in
    let only = subst (λ (l : List ℕ). All (λ m. key_at group_key rows m ≡ (ask.model, l)) numbers) c.as_bytes.ensures.value c.with_key.ensures.only in
    let inside = some_group rows ask.model ask.security numbers c.with_key.ensures.within n c.in_ok-n.ensures.value in
    let here = slice_get-get_or rows n c.index-rows-n.result inside ∙ ap Some (sym c.index-rows-n.is) in
    sym here ∙ the_group rows ask.model ask.security numbers c.requires.differ c.with_key.ensures.within only n c.in_ok-n.ensures.value
