use Rattle.std.proofs.Common.{◌≡◌, ◌<◌, ◌≤◌, List, ℕ, Bool, ap, length, rules, arith}
use Rattle.message_core.specs.Instances.{names_of}
use Rattle.message_core.specs.declared.binding.Binding.{Binding}
use Rattle.agent_core.specs.Lookups.{hidden_count}
use Rattle.agent_core.specs.Hidden.{hidden_left}
use Rattle.agent_core.proofs.HiddenWalks.{runs_none, left_at_first}
use Rattle.agent_core.proofs.Fits.{names-at, names-length}
use Rattle.agent_core.proofs.Lackings.{slice_at}
use Rattle.agent_core.proofs.nexts.get_next_all.Goals as goal

pub returns-in_default-clause-lacks : goal.returns-in_default-clause-lacks
returns-in_default-clause-lacks g c =
    let within : c.loop-n.n < length c.args.asked.now = search rules in
    record {
      before = c.loop-n.n;
      number = omega arith;
      name = c.index-asked-n.result.name;
      asked =
          slice_at (names_of c.args.asked.now) c.loop-n.n c.index-asked-n.result.name (omega (arith, within, names-length c.args.asked.now))
          (names-at c.args.asked.now c.loop-n.n c.index-asked-n.result within c.index-asked-n.is);
      lacks = c.in_default.ensures.lacks;
    }

-- no run is kept at first
pub loop-n-init : goal.loop-n-init
loop-n-init g c =
    let shows : List ℕ → Bool = g.S.View.shows c.args.source.now in
    let rows : List Binding = g.S.Successors.instances c.args.source.now in
    let count : length c.in_ok-hidden.hidden.runs.items ≡ 0 = ap length c.in_ok-hidden.ensures.none in
    let few : hidden_left shows rows c.in_ok-hidden.hidden.runs.items ≤ hidden_count shows rows = left_at_first shows rows c.in_ok-hidden.hidden.runs.items c.in_ok-hidden.ensures.none in
    record {
      answers = c.in_ok-answers.ensures.items;
      count = c.in_ok-answers.ensures.len;
      capacity = search rules;
      work = omega arith;
      runs = (runs_none shows rows (g.S.Successors.at c.args.source.now) (g.S.Successors.is_there c.args.source.now) (g.S.Successors.stands c.args.source.now) 0 c.in_ok-hidden.hidden 0 c.in_ok-hidden.ensures.none (omega arith)).runs;
      few = omega (arith, count);
      space = omega (arith, c.in_ok-hidden.ensures.capacity, c.most_runs.ensures);
      once = omega arith;
      left = λ _. omega (arith, few);
    }
