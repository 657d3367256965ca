use Rattle.std.proofs.Common.{length}
use Rattle.bridge_mib.proofs.statics.+write_below.Given as goal

abbrev pub decreases-write_below : goal.decreases-write_below
decreases-write_below l = length l.numbers.now
