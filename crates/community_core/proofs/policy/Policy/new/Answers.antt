use Rattle.std.proofs.Common.{sym, subst}
use Rattle.community_core.specs.Communities.{AreSound}
use Rattle.community_core.proofs.Short.{sound}
use Rattle.community_core.proofs.policy.Policy.new.Goals as goal

pub invariant_of-result : goal.invariant_of-result
invariant_of-result c = subst AreSound (sym c.in_ok-communities.ensures.rows) (sound c.args.communities c.in_ok-communities.ensures.right)
