use Rattle.std.proofs.Common.{◌≡◌, ◌≤◌, ◌<◌, ◌+◌, ◌*◌, take, length, vec_len, vec_capacity}
use Rattle.message_core.specs.Instances.{names_of}
use Rattle.agent_core.specs.Reading.{visible, next_answers}
use Rattle.agent_core.specs.Lookups.{hidden_count, most_lookups}
use Rattle.agent_core.specs.Hidden.{AreHiddenRuns, hidden_left}
use Rattle.agent_core.proofs.nexts.get_next_all.Given as goal

abbrev pub invariant-loop-n : goal.invariant-loop-n
invariant-loop-n g l =
    let shows = g.S.View.shows l.source in
    let rows = g.S.Successors.instances l.source in
    record {
      answers : l.answers.items ≡ next_answers (visible shows rows) (names_of (take l.n l.asked));
      count : vec_len l.answers ≡ l.n;
      capacity : vec_capacity l.answers ≡ length l.asked;
      work : l.steps ≤ l.fn.steps + l.n * most_lookups shows rows;
      runs : AreHiddenRuns shows rows (g.S.Successors.at l.source) (g.S.Successors.is_there l.source) (g.S.Successors.stands l.source) l.hidden.runs.items;
      few : length l.hidden.runs.items ≤ l.n;
      space : length l.asked ≤ vec_capacity l.hidden.runs + 1;
      once : l.steps ≤ l.fn.steps + l.n + hidden_count shows rows;
      left : l.n < length l.asked → l.steps + hidden_left shows rows l.hidden.runs.items ≤ l.fn.steps + l.n + hidden_count shows rows;
    }
