use Rattle.std.proofs.Common.{option_map, sym, ap, ◌∙◌}
use Rattle.std.specs.Option.{option_copied}
use Rattle.setphase_core.proofs.Families.{value_there, value_missing}
use Rattle.setphase_core.proofs.family_index.family_at.Goals as goal

pub returns-in_err-number : goal.returns-in_err-number
returns-in_err-number c = λ f.
    value_missing c.args.vacm.now.families c.args.at.now f (sym c.family_at.ensures.row ∙ c.in_err-number.was)
    ∙ ap (λ o. option_map f (option_copied o)) (sym c.from_residual.ensures)

pub returns : goal.returns
returns c = λ f.
    value_there c.args.vacm.now.families c.args.at.now f c.in_ok-number.number c.family_row.result.now
    (sym c.family_at.ensures.row ∙ c.in_ok-number.was) c.family_row.ensures.row
