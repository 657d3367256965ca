use Rattle.std.proofs.Common.{length}
use Rattle.setphase_core.proofs.static_limit.+is_made_by.Given as goal

abbrev pub decreases-is_made_by : goal.decreases-is_made_by
decreases-is_made_by l = length l.reserved.now
