use Rattle.std.proofs.Common.{◌≡◌, ◌≤◌, ◌+◌, ◌*◌, take}
use Rattle.agent_core.specs.Reading.{get_answers}
use Rattle.agent_core.specs.Lookups.{hidden_count, most_lookups}
use Rattle.agent_core.specs.Hidden.{AreHiddenRuns, hidden_left}
use Rattle.agent_core.proofs.getting.get_all.Given as goal

abbrev pub invariant-loop-binding : goal.invariant-loop-binding
invariant-loop-binding g l =
    let shows = g.S.View.shows l.source in
    let rows = g.S.Successors.instances l.source in
    record {
      answers : l.answers ≡ get_answers (g.S.Source.objects l.source) shows rows (take l.binding-index l.asked);
      work : l.steps ≤ l.fn.steps + l.binding-index * most_lookups shows rows;
      runs : AreHiddenRuns shows rows (g.S.Successors.at l.source) (g.S.Successors.is_there l.source) (g.S.Successors.stands l.source) l.hidden.runs.items;
      once : l.steps + hidden_left shows rows l.hidden.runs.items ≤ l.fn.steps + l.binding-index + hidden_count shows rows;
    }
