use Rattle.std.proofs.Common.{sym, ◌∙◌}
use Rattle.vacm_core.proofs.Agrees.{agrees_found_begun}
use Rattle.vacm_core.proofs.deciding.agrees.Goals as goal

pub returns-then-is_some : goal.returns-then-is_some
returns-then-is_some c =
    c.if-is_some.true ∙ sym (agrees_found_begun c.behind.result (λ rest. rest.now) c.args.mask.now c.args.subtree.now c.args.name.now c.behind.ensures (sym c.is_some.ensures ∙ c.if-is_some.true))
