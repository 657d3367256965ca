use Rattle.std.proofs.Common.{◌≡◌, ◌≤◌, length}
use Rattle.ber_core.specs.Encoding.{shortest}
use Rattle.ber_core.proofs.shortest.shortest_of.Given as goal

abbrev pub invariant-loop-rest : goal.invariant-loop-rest
invariant-loop-rest l = record { same : shortest l.rest ≡ shortest l.content; within : length l.rest ≤ length l.content }

abbrev pub decreases-loop-rest : goal.decreases-loop-rest
decreases-loop-rest l = length l.rest
