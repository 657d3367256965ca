use Rattle.std.proofs.Common.{length}
use Rattle.setphase_core.proofs.sets.+count_static.Given as goal

abbrev pub decreases-count_static : goal.decreases-count_static
decreases-count_static l = length l.staged.now
