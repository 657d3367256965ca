use Rattle.std.proofs.Common.{ℕ, Some, sym, ap, ◌∙◌}
use Rattle.vacm_core.specs.Fronts.{is_rival, front_past}
use Rattle.vacm_core.proofs.FrontNames.{shortest}
use Rattle.vacm_core.proofs.front.shortest_front.Goals as goal

pub returns : goal.returns
returns c =
    let rows = c.args.rows.now in
    let view = c.args.view.now in
    let name = c.args.name.now in
    let decides = c.args.decides in
    let past = c.front_past.ensures ∙ ap (λ (least : ℕ). front_past (is_rival rows view decides) name (Some least) rows) c.front_of_row.ensures in
    shortest rows c.requires.differ view name decides (sym c.requires.decides) c.front_past.result (sym past)
