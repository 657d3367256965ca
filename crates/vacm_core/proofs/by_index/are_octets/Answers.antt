use Rattle.std.proofs.Common.{◌≡◌, ℕ, ◌<◌, length, arith}
use Rattle.std.proofs.lemmas.List.{same_lists}
use Rattle.vacm_core.proofs.by_index.are_octets.Goals as goal

pub returns : goal.returns
returns c same =
    same_lists c.args.numbers.now c.args.octets.now (omega (arith, c.if-numbers-octets.false)) (λ k d lt. c.loop-k.invariant k d (omega (arith, lt, c.loop-k-test.false, c.if-numbers-octets.false)))
