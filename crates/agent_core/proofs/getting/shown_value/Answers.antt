use Rattle.std.proofs.Common.{◌≡◌, Option, IfOk, subst, rules}
use Rattle.message_core.specs.declared.value.Value.{Value}
use Rattle.agent_core.proofs.Below.{value-hidden, value-shown}
use Rattle.agent_core.proofs.getting.shown_value.Goals as goal

pub returns-then-not-has_name : goal.returns-then-not-has_name
returns-then-not-has_name g c = value-hidden (g.S.View.shows c.args.source.now) (g.S.Successors.instances c.args.source.now) c.args.name.now (search rules)

pub returns : goal.returns
returns g c =
    subst (λ (value : Option Value). IfOk c.get.result (λ (found : Option Value). found ≡ value))
    (value-shown (g.S.View.shows c.args.source.now) (g.S.Successors.instances c.args.source.now) c.args.name.now (search rules)) c.get.ensures
