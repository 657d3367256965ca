use Rattle.std.proofs.Common.{rules}
use Rattle.std.proofs.lemmas.Fn.{filter_same}
use Rattle.fdb_core.proofs.static_rows.keep_made.Goals as goal

-- the closure gives whether a row is made
pub returns-clause-rows : goal.returns-clause-rows
returns-clause-rows c = filter_same _ (λ r. r.made) _ (λ x b w called. search rules) _ _ c.retain.ensures.filtered
