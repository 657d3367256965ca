use Rattle.std.proofs.Common.{◌∙◌, option_map, sym, ap}
use Rattle.std.specs.Option.{option_copied}
use Rattle.fdb_core.specs.declared.static_row.StaticRow.{StaticRow}
use Rattle.fdb_core.specs.Statics.{numbers_of}
use Rattle.setphase_core.specs.Values.{by_static, index_after}
use Rattle.bridge_mib.proofs.StaticRows.{next_first, next_behind}
use Rattle.bridge_mib.proofs.statics.row_after.Goals as goal

pub returns-in-Some : goal.returns-in-Some
returns-in-Some c =
    let rows = c.args.bridge.now.statics.rows in
    λ f. ap (option_map (λ (r : StaticRow). numbers_of r.index)) c.next_static-in-Some.ensures ∙ next_behind rows f c.in-Some.after.now ∙ ap (λ o. index_after (by_static rows f) (option_copied o)) (sym c.in-Some.is)

pub returns-in-None : goal.returns-in-None
returns-in-None c =
    let rows = c.args.bridge.now.statics.rows in
    λ f. ap (option_map (λ (r : StaticRow). numbers_of r.index)) c.next_static.ensures ∙ next_first rows f ∙ ap (λ o. index_after (by_static rows f) (option_copied o)) (sym c.in-None.is)
