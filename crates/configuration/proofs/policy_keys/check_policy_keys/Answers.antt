use Rattle.std.proofs.Common.{rules, ◌≡◌, codes}
use Rattle.toml.specs.View.{table_view}
use Rattle.policy_text.specs.Keys.{key_count}
use Rattle.configuration.specs.PolicyKeys.{HasArray}
use Rattle.configuration.proofs.PolicyFaults.{keys_there}
use Rattle.configuration.proofs.policy_keys.check_policy_keys.Goals as goal

pub returns-clause-right : goal.returns-clause-right
returns-clause-right c =
    let ms = table_view c.args.table.now in
    let contexts : HasArray (codes "contexts") ms = search rules in
    let community : HasArray (codes "community") ms = search rules in
    let group : HasArray (codes "group") ms = search rules in
    let access : HasArray (codes "access") ms = search rules in
    let family : HasArray (codes "family") ms = search rules in
    let count : key_count ms ≡ 5 = search rules in
    keys_there ms contexts community group access family count
