use Rattle.std.proofs.Common.{ap, not, ◌∙◌}
use Rattle.vacm_core.proofs.ViewRows.{found}
use Rattle.vacm_core.proofs.families.has_row_of.Goals as goal

pub returns : goal.returns
returns c =
    let with = c.with_key.ensures in
    ap not c.is_empty.ensures ∙ found c.args.rows.now c.args.view.now c.with_key.result.now with.within with.only with.all
