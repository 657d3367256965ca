use Rattle.std.proofs.Common.{◌≡◌, ◌∙◌, ◌+◌, List, ℕ, Bool, cond, Some, None, Option, ap, subst}
use Rattle.setphase_core.specs.declared.passing.Spot.{Spot}
use Rattle.message_core.specs.declared.binding.Binding.{Binding}
use Rattle.message_core.specs.Instances.{next_of}
use Rattle.agent_core.specs.declared.hidden.HiddenRun.{HiddenRun}
use Rattle.agent_core.specs.Reading.{visible}
use Rattle.agent_core.proofs.HiddenWalks.{run_around, run_of, kept_runs, kept_left}
use Rattle.agent_core.proofs.hidden.pass_hidden.Goals as goal

pub returns-in-Some-clause-found : goal.returns-in-Some-clause-found
returns-in-Some-clause-found g c =
    let at : Spot → Binding = g.S.Successors.at c.args.source.now in
    let rows : List Binding = visible (g.S.View.shows c.args.source.now) (g.S.Successors.instances c.args.source.now) in
    let run : HiddenRun = c.in-Some.run'.now in
    ap (λ (b : Bool). cond b (Some (at c.end.new.spot)) None) c.end.ensures.found
    ∙ ap (λ (s : Spot). cond run.found (Some (at s)) None) c.end.ensures.spot
    ∙ run_around (g.S.View.shows c.args.source.now) (g.S.Successors.instances c.args.source.now) at (g.S.Successors.is_there c.args.source.now) (g.S.Successors.stands c.args.source.now) c.args.hidden.now.runs.items
    run c.in_ok-first.first c.requires.runs c.in-Some.ensures.0 c.in-Some.ensures.1
    ∙ ap (next_of rows) c.in_ok-first.ensures.name

pub returns-clause-runs : goal.returns-clause-runs
returns-clause-runs g c =
    let at : Spot → Binding = g.S.Successors.at c.args.source.now in
    let run : HiddenRun = record { first = c.in_ok-first.first; last = c.in_ok-last.last; found = c.in_ok-last.found; spot = c.copy_spot.new.into; stand = c.walk_hidden.new.stand } in
    kept_runs (g.S.View.shows c.args.source.now) (g.S.Successors.instances c.args.source.now) at (g.S.Successors.is_there c.args.source.now) (g.S.Successors.stands c.args.source.now)
    c.args.hidden.now c.keep.new.self run c.requires.runs
    (run_of (g.S.View.shows c.args.source.now) (g.S.Successors.instances c.args.source.now) at (g.S.Successors.is_there c.args.source.now) (g.S.Successors.stands c.args.source.now)
    (at c.args.spot.now) run c.walk_hidden.new.spot c.requires.contained c.in_ok-first.ensures.name c.in_ok-last.ensures.ordered c.in_ok-last.ensures.none
    c.in_ok-last.ensures.found c.in_ok-last.ensures.there c.in_ok-last.ensures.stands c.copy_spot.ensures)
    c.keep.ensures.kept c.keep.ensures.full

pub returns-clause-once : goal.returns-clause-once
returns-clause-once g c = λ less.
    let at : Spot → Binding = g.S.Successors.at c.args.source.now in
    let run : HiddenRun = record { first = c.in_ok-first.first; last = c.in_ok-last.last; found = c.in_ok-last.found; spot = c.copy_spot.new.into; stand = c.walk_hidden.new.stand } in
    kept_left (g.S.View.shows c.args.source.now) (g.S.Successors.instances c.args.source.now) at (g.S.Successors.is_there c.args.source.now) (g.S.Successors.stands c.args.source.now)
    c.args.hidden.now c.keep.new.self run (at c.args.spot.now).name c.walk_hidden.new.steps _ c.keep.ensures.kept c.in_ok-first.ensures.name c.in_ok-last.ensures.once less
