use Rattle.std.proofs.Common.{length}
use Rattle.udp_agent.proofs.lasting.+any_failed.Given as goal

-- the ends that are left to examine
abbrev pub decreases-any_failed : goal.decreases-any_failed
decreases-any_failed l = length l.ends.now
