use Rattle.std.proofs.Common.{◌≡◌, ◌≤◌, ◌+◌, ◌++◌, length, take}
use Rattle.message_core.specs.Instances.{names_of}
use Rattle.agent_core.specs.Reading.{visible, next_answers}
use Rattle.agent_core.specs.Sending.{AreStands}
use Rattle.agent_core.specs.Fitting.{most_successors}
use Rattle.agent_core.specs.Hidden.{AreRunsFor, hidden_left}
use Rattle.agent_core.proofs.bulk.repeat_once.Given as goal

abbrev pub invariant-loop-binding : goal.invariant-loop-binding
invariant-loop-binding g l = record {
  whole : l.fitting.bindings ≡ l.fn.fitting.bindings ++ next_answers (visible (g.S.View.shows l.lookup.source.now) (g.S.Successors.instances l.lookup.source.now)) (take l.binding-index (names_of l.asked));
  stands : AreStands (g.S.Successors.stands l.lookup.source.now) l.fitting.stands (names_of l.fitting.bindings);
  space : l.fitting.space ≡ l.fn.fitting.space;
  work :
      let shows = g.S.View.shows l.lookup.source.now in
      let rows = g.S.Successors.instances l.lookup.source.now in
      l.steps + length l.fn.fitting.bindings + hidden_left shows rows l.hidden.runs.items ≤ l.fn.steps + length l.fitting.bindings + hidden_left shows rows l.fn.hidden.runs.items;
  runs :
      AreRunsFor (g.S.View.shows l.lookup.source.now) (g.S.Successors.instances l.lookup.source.now) (g.S.Successors.at l.lookup.source.now)
      (g.S.Successors.is_there l.lookup.source.now) (g.S.Successors.stands l.lookup.source.now) most_successors (length l.fitting.bindings) l.hidden;
}
