use Rattle.std.proofs.Common.{refl}
use Rattle.configuration.proofs.causes.row_cause.Goals as goal

pub returns-in_ok-wrong-in-BadField : goal.returns-in_ok-wrong-in-BadField
returns-in_ok-wrong-in-BadField c =
    let fault = rw c.in-BadField.is at c.requires in
    (fault (λ same. cc), rw (c.in_ok-wrong-in-BadField.ensures, c.row_of-in-BadField.ensures) refl)
