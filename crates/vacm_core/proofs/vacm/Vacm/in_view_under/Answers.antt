use Rattle.std.proofs.Common.{◌≡◌, List, ap, ◌∙◌, subst}
use Rattle.vacm_core.specs.declared.tables.FamilyRow.{FamilyRow}
use Rattle.vacm_core.specs.Tables.{Tables}
use Rattle.vacm_core.specs.Families.{deciding_family, by_family}
use Rattle.vacm_core.specs.Fronts.{IsShortestFront}
use Rattle.vacm_core.proofs.FrontNames.{shown_under}
use Rattle.vacm_core.proofs.vacm.Vacm.in_view_under.Goals as goal

pub returns-clause-shown : goal.returns-clause-shown
returns-clause-shown c =
    let rows = c.args.self.now.families in
    let view = c.args.view.now in
    let name = c.args.name.now in
    let seen : c.self.inside.families ≡ rows = ap (λ (t : Tables). t.families) c.self.view_is in
    let decides = c.deciding-decides.ensures.place ∙ ap (λ (r : List FamilyRow). deciding_family r view name) seen in
    let front = subst (λ (r : List FamilyRow). IsShortestFront r view name c.shortest_front.result) seen c.shortest_front.ensures in
    shown_under rows view name c.answer_by.result c.shortest_front.result (c.answer_by.ensures.answer ∙ ap (by_family rows) decides) front
