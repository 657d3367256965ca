use Rattle.std.proofs.Common.{[], arith, refl, rules}
use Rattle.message_core.proofs.Kept.{shortest_of, read_of}
use Rattle.message_core.proofs.encoded.EncodedBindings.new.Goals as goal

pub invariant_of-result : goal.invariant_of-result
invariant_of-result c =
    (omega arith, rw c.in_ok-new.ensures.ok (search rules), shortest_of [] [] tt (omega arith) refl)

pub returns : goal.returns
returns c = read_of [] [] tt (omega arith) refl
