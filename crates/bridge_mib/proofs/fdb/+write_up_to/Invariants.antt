use Rattle.std.proofs.Common.{length}
use Rattle.bridge_mib.proofs.fdb.+write_up_to.Given as goal

abbrev pub decreases-write_up_to : goal.decreases-write_up_to
decreases-write_up_to l = length l.octets.now
