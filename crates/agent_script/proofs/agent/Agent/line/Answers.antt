use Rattle.std.proofs.Common.{◌≡◌, ◌∙◌, Some, option_map, ap, sym}
use Rattle.agent_script.specs.State.{Agent}
use Rattle.agent_script.proofs.Lines.{under, line_of_policy, policy_line_gives_up}
use Rattle.agent_script.proofs.agent.Agent.line.Goals as goal

pub returns-in-Some-clause-stated : goal.returns-in-Some-clause-stated
returns-in-Some-clause-stated g c =
    let a : Agent = record {
      history = c.self.inside.kept;
      is_auditing = c.self.inside.is_auditing;
      drops = c.self.inside.drops;
      policy_lines = option_map (λ v. v.items) c.self.inside.policy_lines;
    } in
    let is : a.policy_lines ≡ Some c.in-Some.lines.items = ap (option_map (λ v. v.items)) (sym c.take.ensures.value ∙ c.in-Some.is) in
    let closes = ap (λ o. record a { policy_lines = option_map (λ v. v.items) o }) c.take.ensures.after in
    rw (← c.self.view_is)
    (under c.policy_line.result _ _ (λ stated whole p. line_of_policy a _ c.in-Some.lines.items c.args.line.now stated _ whole is closes p)
    c.policy_line.ensures.stated)

pub returns-in-Some-clause-given_up : goal.returns-in-Some-clause-given_up
returns-in-Some-clause-given_up g c =
    let a : Agent = record {
      history = c.self.inside.kept;
      is_auditing = c.self.inside.is_auditing;
      drops = c.self.inside.drops;
      policy_lines = option_map (λ v. v.items) c.self.inside.policy_lines;
    } in
    let is : a.policy_lines ≡ Some c.in-Some.lines.items = ap (option_map (λ v. v.items)) (sym c.take.ensures.value ∙ c.in-Some.is) in
    let closes = ap (λ o. record a { policy_lines = option_map (λ v. v.items) o }) c.take.ensures.after in
    rw (← c.self.view_is) (policy_line_gives_up c.policy_line.result a _ c.in-Some.lines.items c.args.line.now is closes c.policy_line.ensures.given_up)
