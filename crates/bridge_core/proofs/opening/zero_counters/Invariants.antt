use Rattle.std.proofs.Common.{◌≡◌, replicate}
use Rattle.bridge_core.specs.Bridge.{no_counters}
use Rattle.bridge_core.proofs.opening.zero_counters.Given as goal

abbrev pub invariant-loop : goal.invariant-loop
invariant-loop l = l.counters.items ≡ replicate l.counter no_counters
