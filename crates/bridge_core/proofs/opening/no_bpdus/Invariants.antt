use Rattle.std.proofs.Common.{◌≡◌, replicate}
use Rattle.std.specs.Prelude.{None}
use Rattle.bridge_core.proofs.opening.no_bpdus.Given as goal

abbrev pub invariant-loop : goal.invariant-loop
invariant-loop l = l.bpdus.items ≡ replicate l.counter None
