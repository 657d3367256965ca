use Rattle.std.proofs.Common.{◌+◌}
use Rattle.std.specs.Prelude.{IfSome}
use Rattle.std.specs.Option.{option_copied}
use Rattle.agent_core.specs.Hidden.{hidden_left}
use Rattle.agent_core.proofs.HiddenWalks.{IsPassing, still}
use Rattle.agent_core.proofs.hidden.walk_hidden.Given as goal

abbrev pub invariant-loop-found : goal.invariant-loop-found
invariant-loop-found g l =
    let shows = g.S.View.shows l.source in
    let rows = g.S.Successors.instances l.source in
    record {
      passing : IsPassing shows rows (g.S.Successors.at l.source) (g.S.Successors.is_there l.source) (g.S.Successors.stands l.source) l.hidden.runs.items
          (g.S.Successors.at l.source l.fn.spot) l.last (option_copied l.ahead) l.found l.spot l.stand l.steps (l.fn.steps + hidden_left shows rows l.hidden.runs.items);
      lookup : IfSome l.lookup (λ lookup. g.S.View.is_lookup l.source lookup);
    }

abbrev pub decreases-loop-found : goal.decreases-loop-found
decreases-loop-found g l =
    still (g.S.View.shows l.source) (g.S.Successors.instances l.source) (g.S.Successors.at l.source) (g.S.Successors.is_there l.source) (g.S.Successors.stands l.source) l.hidden.runs.items l.found l.spot
