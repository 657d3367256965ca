use Rattle.std.proofs.Common.{ap, not, ◌∙◌}
use Rattle.vacm_core.proofs.HiddenNames.{hides_by_row, hides_by_none}
use Rattle.vacm_core.proofs.hiding.hides_all.Goals as goal

pub returns-in-Some : goal.returns-in-Some
returns-in-Some c =
    c.beats_included.ensures
    ∙ hides_by_row c.args.rows.now c.args.view.now c.args.prefix.now c.in-Some.n c.index-rows-n.result c.in-Some.ensures.place c.index-rows-n.is

pub returns-in-None : goal.returns-in-None
returns-in-None c = ap not c.has_included.ensures ∙ hides_by_none c.args.rows.now c.args.view.now c.args.prefix.now c.in-None.ensures.place
