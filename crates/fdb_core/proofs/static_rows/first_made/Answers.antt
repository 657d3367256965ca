use Rattle.std.proofs.Common.{rules, ◌∙◌}
use Rattle.std.proofs.lemmas.Iterator.{YieldsList-from_slice}
use Rattle.std.proofs.lemmas.Iterator.Search.{find_from_yields_List}
use Rattle.fdb_core.proofs.static_rows.first_made.Goals as goal

-- the closure gives whether a row is made
pub returns : goal.returns
returns c =
    let found = find_from_yields_List (λ r. r.made) _ _ c.find.result c.find.ensures.ran (YieldsList-from_slice c.args.rows.now cc) (λ x b q called. search rules) in
    c.copied.ensures ∙ found
