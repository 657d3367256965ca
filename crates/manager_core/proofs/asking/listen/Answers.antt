use Rattle.std.proofs.Common.{◌≡◌, length, take, refl, arith}
use Rattle.manager_core.specs.Asks.{was_quiet, was_closed, was_broken, was_answered}
use Rattle.manager_core.proofs.asking.listen.Goals as goal

pub returns-in-Ok-Nothing-clause-tried : goal.returns-in-Ok-Nothing-clause-tried
returns-in-Ok-Nothing-clause-tried g c = λ a before. (was_quiet, refl, g.met.W.Wire.goes_on _ _ _ _ _ before (rw c.in-Ok-Nothing.field-0-is at c.in-Ok-Nothing.ensures.went))

pub returns-in-Ok-Closed-clause-tried : goal.returns-in-Ok-Closed-clause-tried
returns-in-Ok-Closed-clause-tried g c = λ a before. (was_closed, refl, g.met.W.Wire.goes_on _ _ _ _ _ before (rw c.in-Ok-Closed.field-0-is at c.in-Ok-Closed.ensures.went))

pub returns-in-Err-clause-tried : goal.returns-in-Err-clause-tried
returns-in-Err-clause-tried g c = λ a before. (was_broken, refl, g.met.W.Wire.goes_on _ _ _ _ _ before (rw c.in-Err.ensures.fault at c.in-Err.ensures.went))

pub returns-in-Ok-Datagram-clause-tried : goal.returns-in-Ok-Datagram-clause-tried
returns-in-Ok-Datagram-clause-tried g c =
    let len : length c.receive.new.into ≡ 2049 = omega (arith, c.receive.auto.into) in
    λ a before. (
      was_answered c.in-Ok-Datagram.field-0-1 (take c.in-Ok-Datagram.len c.receive.new.into),
      c.hear.ensures.heard,
      g.met.W.Wire.goes_on _ _ _ _ _ before (rw (c.in-Ok-Datagram.field-0-is, len) at c.in-Ok-Datagram.ensures.went),
    )
