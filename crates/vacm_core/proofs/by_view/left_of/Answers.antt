use Rattle.std.proofs.Common.{◌≡◌, true, List, ℕ, sym, subst}
use Rattle.std.specs.Prelude.{IfSome}
use Rattle.vacm_core.specs.Candidates.{IsOfName}
use Rattle.vacm_core.specs.Families.{agrees_from}
use Rattle.vacm_core.proofs.by_view.left_of.Goals as goal

pub returns-in-Some : goal.returns-in-Some
returns-in-Some c rank row is inside has =
    let of : IsOfName c.args.blocks.now c.in-Some.candidates.now c.args.name.now =
    subst (λ kept. IfSome kept (λ m. IsOfName c.args.blocks.now m.now c.args.name.now)) c.in-Some.is c.requires in
    c.left.ensures rank row is inside (subst (λ (l : List ℕ). agrees_from 0 row.mask row.subtree l ≡ true) (sym of.name_is) has)
