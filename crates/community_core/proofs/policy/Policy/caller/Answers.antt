use Rattle.std.proofs.Common.{rules, subst}
use Rattle.community_core.specs.Communities.{AreSound, PolicyTables}
use Rattle.community_core.proofs.Short.{named_short}
use Rattle.community_core.proofs.policy.Policy.caller.Goals as goal

pub returns-in-Some-clause-short : goal.returns-in-Some-clause-short
returns-in-Some-clause-short c =
    let sound : AreSound c.args.self.now.communities = subst (λ (p : PolicyTables). AreSound p.communities) c.self.view_is c.self.invariant in
    named_short c.args.self.now.communities c.args.name.now c.in-Some.n sound (search rules)
