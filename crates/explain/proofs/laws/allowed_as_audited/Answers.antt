use Rattle.std.proofs.Common.{refl}
use Rattle.audit_core.specs.Text.{leave_text}
use Rattle.explain.specs.Explaining.{allowed_text}
use Rattle.explain.proofs.laws.allowed_as_audited.Goals as goal

pub returns : goal.returns
unfolding leave_text allowed_text
returns c = λ row view. refl
