use Rattle.std.proofs.Common.{length}
use Rattle.setphase_core.proofs.staging.+value_among.Given as goal

abbrev pub decreases-value_among : goal.decreases-value_among
decreases-value_among l = length l.staged.now
