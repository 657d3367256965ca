use Rattle.std.proofs.Common.{◌≡◌, ◌≤◌, ◌+◌, ◌++◌, ◌-◌, length, drop}
use Rattle.message_core.specs.Instances.{names_of}
use Rattle.agent_core.specs.Reading.{visible}
use Rattle.agent_core.specs.Sending.{AreStands}
use Rattle.agent_core.specs.Fitting.{most_successors}
use Rattle.agent_core.specs.Hidden.{AreRunsFor, hidden_left}
use Rattle.agent_core.specs.Bulk.{further}
use Rattle.agent_core.proofs.bulk.repeat_further.Given as goal

abbrev pub invariant-loop-i : goal.invariant-loop-i
invariant-loop-i g l =
    let rows = visible (g.S.View.shows l.lookup.source.now) (g.S.Successors.instances l.lookup.source.now) in
    record {
      all :
          l.fn.fitting.bindings ++ further rows l.most (drop (length l.fn.fitting.bindings - l.columns) l.fn.fitting.bindings)
          ≡ l.fitting.bindings ++ further rows (l.most - l.i) (drop (length l.fitting.bindings - l.columns) l.fitting.bindings);
      stands : AreStands (g.S.Successors.stands l.lookup.source.now) l.fitting.stands (names_of l.fitting.bindings);
      space : l.fitting.space ≡ l.fn.fitting.space;
      work :
          let shows = g.S.View.shows l.lookup.source.now in
          let all = g.S.Successors.instances l.lookup.source.now in
          l.steps + length l.fn.fitting.bindings + hidden_left shows all l.hidden.runs.items ≤ l.fn.steps + length l.fitting.bindings + hidden_left shows all l.fn.hidden.runs.items;
      runs :
          AreRunsFor (g.S.View.shows l.lookup.source.now) (g.S.Successors.instances l.lookup.source.now) (g.S.Successors.at l.lookup.source.now)
          (g.S.Successors.is_there l.lookup.source.now) (g.S.Successors.stands l.lookup.source.now) most_successors (length l.fitting.bindings) l.hidden;
      columns : l.columns ≤ length l.fitting.bindings;
      grown : l.fitting.bindings ≡ l.fn.fitting.bindings ++ drop (length l.fn.fitting.bindings) l.fitting.bindings;
    }
