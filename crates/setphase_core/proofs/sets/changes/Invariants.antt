use Rattle.std.proofs.Common.{◌≡◌, take}
use Rattle.setphase_core.specs.Staging.{assignments_of}
use Rattle.setphase_core.specs.Together.{assign}
use Rattle.setphase_core.proofs.sets.changes.Given as goal

abbrev pub invariant-loop-entry : goal.invariant-loop-entry
invariant-loop-entry l = l.world ≡ assign (take l.entry-index (assignments_of l.staged)) l.world
