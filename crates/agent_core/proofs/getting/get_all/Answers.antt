use Rattle.std.proofs.Common.{◌≡◌, ◌+◌, ◌<◌, ◌≤◌, List, ℕ, Bool, ap, length, rules, arith}
use Rattle.message_core.specs.declared.binding.Binding.{Binding}
use Rattle.agent_core.specs.Lookups.{hidden_count, most_lookups}
use Rattle.agent_core.specs.Hidden.{hidden_left}
use Rattle.agent_core.proofs.LookupLemmas.{lookups_more, lookups_within}
use Rattle.agent_core.proofs.HiddenWalks.{runs_none, left_at_first}
use Rattle.agent_core.proofs.getting.get_all.Goals as goal

-- no run is kept at first
pub loop-binding-init : goal.loop-binding-init
loop-binding-init g c =
    let shows : List ℕ → Bool = g.S.View.shows c.args.source.now in
    let rows : List Binding = g.S.Successors.instances c.args.source.now in
    let few : hidden_left shows rows c.none-hidden.result.runs.items ≤ hidden_count shows rows = left_at_first shows rows c.none-hidden.result.runs.items c.none-hidden.ensures in
    record {
      answers = c.new-answers.ensures;
      work = omega arith;
      runs = (runs_none shows rows (g.S.Successors.at c.args.source.now) (g.S.Successors.is_there c.args.source.now) (g.S.Successors.stands c.args.source.now) 0 c.none-hidden.result 0 c.none-hidden.ensures (omega arith)).runs;
      once = omega (arith, few);
    }

pub returns-in_err-answer-clause-work : goal.returns-in_err-answer-clause-work
returns-in_err-answer-clause-work g c =
    let most : ℕ = most_lookups (g.S.View.shows c.args.source.now) (g.S.Successors.instances c.args.source.now) in
    lookups_within c.args.steps.now c.get_beside.new.steps (c.loop-binding.binding-index + 1) (length c.args.asked.now) most
    (lookups_more c.args.steps.now c.loop-binding.steps c.get_beside.new.steps c.loop-binding.binding-index most c.loop-binding.invariant.work c.in_err-answer.ensures.work)
    (omega (arith, c.loop-binding-test.true))
