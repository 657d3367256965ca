use Rattle.std.proofs.Common.{ap, ◌∙◌, zero-add, sym}
use Rattle.vacm_core.specs.Families.{mask_bit}
use Rattle.vacm_core.proofs.Agrees.{agrees_found, agrees_only}
use Rattle.vacm_core.proofs.laws.families_by_bits.Goals as goal

pub returns : goal.returns
returns c mask subtree name = (
  (λ h. let f = agrees_found 0 mask subtree name h in (f.0, λ k lt b. f.1 k lt (ap (mask_bit mask) (zero-add k) ∙ b))),
  (λ h. agrees_only 0 mask subtree name h.0 (λ k lt b. h.1 k lt (ap (mask_bit mask) (sym (zero-add k)) ∙ b))),
)
