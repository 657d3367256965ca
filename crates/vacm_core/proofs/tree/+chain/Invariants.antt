use Rattle.std.proofs.Common.{length}
use Rattle.vacm_core.proofs.tree.+chain.Given as goal

-- the steps that are left
abbrev pub decreases-chain : goal.decreases-chain
decreases-chain l = length l.way.now
