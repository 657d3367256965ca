use Rattle.std.proofs.Common.{◌∙◌, option_map, sym, ap}
use Rattle.std.specs.Option.{option_copied}
use Rattle.fdb_core.specs.declared.row.LearnedRow.{LearnedRow}
use Rattle.setphase_core.specs.Values.{by_address, index_after}
use Rattle.bridge_mib.proofs.Learned.{next_behind}
use Rattle.bridge_mib.proofs.fdb.row_after.Goals as goal

pub returns-in-Some : goal.returns-in-Some
returns-in-Some c =
    let facts = c.next_after-in-Some.ensures in
    let rows = c.args.fdb.now.rows in
    λ f. ap (option_map (λ (r : LearnedRow). r.address.0)) facts.row ∙ next_behind rows f c.in-Some.after.now c.address_up_to.result facts.table.addresses c.address_up_to.ensures.found c.address_up_to.ensures.none ∙ ap (λ o. index_after (by_address rows f) (option_copied o)) (sym c.in-Some.is)
