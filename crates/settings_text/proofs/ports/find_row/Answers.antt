use Rattle.std.proofs.Common.{rules}
use Rattle.std.specs.Prelude.{◌==◌}
use Rattle.std.proofs.lemmas.Iterator.{YieldsList-from_slice}
use Rattle.std.proofs.lemmas.Iterator.Search.{find_from_yields_List}
use Rattle.settings_text.proofs.ports.find_row.Goals as goal

-- the closure gives whether a row is of the port
pub returns : goal.returns
returns c =
    find_from_yields_List (λ r. r.number == c.args.port) _ _ c.find.result c.find.ensures.ran (YieldsList-from_slice c.args.rows.now cc) (λ x b q called. search rules)
