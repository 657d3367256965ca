use Rattle.std.proofs.Common.{◌≡◌, drop}
use Rattle.setphase_core.specs.Staging.{assignments_of}
use Rattle.setphase_core.specs.Together.{assign}
use Rattle.setphase_core.specs.Tested.{first_lacking}
use Rattle.setphase_core.proofs.sets.first_lacking.Given as goal

abbrev pub invariant-loop-entry : goal.invariant-loop-entry
invariant-loop-entry l =
    first_lacking (assign (assignments_of l.staged) l.world) l.staged
    ≡ first_lacking (assign (assignments_of l.staged) l.world) (drop l.entry-index l.staged)
