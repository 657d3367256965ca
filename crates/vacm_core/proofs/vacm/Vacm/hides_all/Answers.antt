use Rattle.std.proofs.Common.{◌≡◌, List, sym, ap, ◌∙◌}
use Rattle.vacm_core.specs.declared.tables.FamilyRow.{FamilyRow}
use Rattle.vacm_core.specs.Tables.{Tables}
use Rattle.vacm_core.specs.Hiding.{hides_all}
use Rattle.vacm_core.proofs.HiddenNames.{hidden}
use Rattle.vacm_core.proofs.vacm.Vacm.hides_all.Goals as goal

pub returns-clause-hidden : goal.returns-clause-hidden
returns-clause-hidden c hides name begins =
    let seen : c.as_slice.result.now ≡ c.args.self.now.families = c.as_slice.ensures ∙ ap (λ (t : Tables). t.families) c.self.view_is in
    let all = ap (λ (rows : List FamilyRow). hides_all rows c.args.view.now c.args.prefix.now) (sym seen) ∙ sym c.hides_all.ensures ∙ hides in
    hidden c.args.self.now.families c.args.view.now c.args.prefix.now name begins all
