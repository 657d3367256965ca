use Rattle.std.proofs.Common.{Some, sym, ap, ◌∙◌}
use Rattle.std.specs.Option.{option_copied}
use Rattle.setphase_core.proofs.Families.{after_there, after_none}
use Rattle.setphase_core.proofs.family_index.family_after.Goals as goal

pub returns-in_default-clause-found : goal.returns-in_default-clause-found
returns-in_default-clause-found c = λ f.
    sym (after_none c.args.vacm.now.families f (option_copied c.args.after) (sym c.number_after.ensures.row ∙ c.in_default.is))

pub returns-clause-found : goal.returns-clause-found
returns-clause-found c = λ f.
    ap (λ i. Some i) c.write_index.ensures
    ∙ sym (after_there c.args.vacm.now.families f (option_copied c.args.after) c.in-Some.number c.family_row.result.now
    (sym c.number_after.ensures.row ∙ c.in-Some.is) c.family_row.ensures.row)
