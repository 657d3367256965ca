use Rattle.std.proofs.Common.{length}
use Rattle.setphase_core.proofs.static_limit.+count_new.Given as goal

abbrev pub decreases-count_new : goal.decreases-count_new
decreases-count_new l = length l.reserved.now
