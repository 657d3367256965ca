-- Acts of a lasting wire, one list behind another.
use Rattle.std.proofs.Common.{List, [], ◌∷◌, ◌++◌}
use Rattle.wire_core.specs.declared.wire.WireFault.TheVariants.{Receive, Send}
use Rattle.wire_core.specs.Acts.{Act, got, quiet, closed, sent, failed}
use Rattle.wire_core.specs.Lasting.{NoSendFails}

pub goes_on : (xs ys : List Act) → NoSendFails xs → NoSendFails ys → NoSendFails (xs ++ ys)
goes_on [] ys p q = q
goes_on (got space peer octets ∷ xs) ys p q = goes_on xs ys p q
goes_on (quiet ∷ xs) ys p q = goes_on xs ys p q
goes_on (closed ∷ xs) ys p q = goes_on xs ys p q
goes_on (sent peer octets ∷ xs) ys p q = goes_on xs ys p q
goes_on (failed Receive ∷ xs) ys p q = goes_on xs ys p q
goes_on (failed Send ∷ xs) ys p q = absurd p
