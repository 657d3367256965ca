use Rattle.std.proofs.Common.{length}
use Rattle.bridge_mib.proofs.fdb.+write_octets.Given as goal

abbrev pub decreases-write_octets : goal.decreases-write_octets
decreases-write_octets l = length l.octets.now
