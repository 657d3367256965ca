use Rattle.std.proofs.Common.{◌≡◌, List, ap, ◌∙◌, rules}
use Rattle.std.specs.Prelude.{find, ◌==◌}
use Rattle.fdb_core.specs.declared.static_row.StaticRow.{StaticRow}
use Rattle.fdb_core.specs.Statics.{rows_of}
use Rattle.fdb_core.proofs.StaticOf.{of_port}
use Rattle.fdb_core.proofs.static_table.StaticTable.rows_of.Goals as goal

pub returns-clause-row : goal.returns-clause-row
returns-clause-row c = λ port.
    let rows : c.rows_at.result.now ≡ rows_of c.args.self.now.rows c.args.address = search rules in
    ap (λ (xs : List StaticRow). find (λ r. r.index.port == port) xs) rows ∙ of_port c.args.self.now.rows c.args.address port
