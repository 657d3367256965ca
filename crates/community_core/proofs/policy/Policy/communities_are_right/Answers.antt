use Rattle.std.proofs.Common.{refl, subst}
use Rattle.vacm_core.proofs.Again.{right_again, map_back}
use Rattle.community_core.specs.Communities.{AreSound, PolicyTables, community_rules, written_community}
use Rattle.community_core.proofs.policy.Policy.communities_are_right.Goals as goal

pub returns-clause-right : goal.returns-clause-right
returns-clause-right c =
    let sound : AreSound c.args.self.now.communities = subst (λ (p : PolicyTables). AreSound p.communities) c.self.view_is c.self.invariant in
    right_again community_rules written_community (λ r. refl) c.args.self.now.communities sound.indexes sound.well_formed

pub returns-clause-same : goal.returns-clause-same
returns-clause-same c = map_back community_rules written_community (λ r. refl) c.args.self.now.communities
