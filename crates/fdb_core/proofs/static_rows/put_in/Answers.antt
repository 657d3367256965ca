use Rattle.std.proofs.Common.{List, subst}
use Rattle.fdb_core.specs.declared.static_row.StaticRow.{StaticRow}
use Rattle.fdb_core.specs.StaticPlaces.{IsRowAt}
use Rattle.fdb_core.proofs.StaticSplit.{replaced}
use Rattle.fdb_core.proofs.static_rows.put_in.Goals as goal

pub returns-in-Ok-clause-rows : goal.returns-in-Ok-clause-rows
returns-in-Ok-clause-rows c =
    let found = subst (λ (l : List StaticRow). IsRowAt l c.args.row.index c.in-Ok.place) c.deref.ensures.value c.in-Ok.ensures.found in
    replaced c.args.rows.now.items c.in-Ok.place c.args.row found
