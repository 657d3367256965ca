use Rattle.std.proofs.Common.{◌≡◌, ◌∙◌, List, ℕ, Bool, false, true, cond, Some, None, sym, ap, subst, rules}
use Rattle.std.specs.Option.{option_copied}
use Rattle.setphase_core.specs.declared.passing.Spot.{Spot}
use Rattle.message_core.specs.declared.binding.Binding.{Binding}
use Rattle.message_core.specs.Instances.{next_of}
use Rattle.agent_core.specs.declared.hidden.HiddenRun.{HiddenRun}
use Rattle.agent_core.specs.Hidden.{IsAheadOf}
use Rattle.agent_core.proofs.HiddenWalks.{passing_begins, passing_goes_on, passing_found, passing_ends, passing_reaches, passing_smaller}
use Rattle.agent_core.proofs.hidden.walk_hidden.Goals as goal

pub loop-found-init : goal.loop-found-init
loop-found-init g c =
    let rows = g.S.Successors.instances c.args.source.now in
    let at : Spot → Binding = g.S.Successors.at c.args.source.now in
    let next = c.next-found in
    record {
      lookup = c.lookup-lookup.ensures;
      passing = passing_begins (g.S.View.shows c.args.source.now) rows at (g.S.Successors.is_there c.args.source.now) (g.S.Successors.stands c.args.source.now) c.args.hidden.now.runs.items
          (at c.args.spot.now) c.in_ok-last.last (option_copied c.ahead-ahead.result) next.result next.new.spot next.new.stand c.args.steps.now next.new.steps
          c.known.ensures.rising c.requires.contained c.requires.hides c.in_ok-last.ensures.name c.requires.apart c.ahead-ahead.ensures
          (next.ensures.found ∙ ap (next_of rows) c.as_slice.ensures.value) next.ensures.there next.ensures.stands next.ensures.work;
    }

pub returns-then-is_shown_by-clause-found : goal.returns-then-is_shown_by-clause-found
returns-then-is_shown_by-clause-found g c =
    let at : Spot → Binding = g.S.Successors.at c.args.source.now in
    let shown : g.S.View.shows c.args.source.now (at c.loop-found.spot).name ≡ true = search rules in
    passing_found (g.S.View.shows c.args.source.now) (g.S.Successors.instances c.args.source.now) at (g.S.Successors.is_there c.args.source.now) (g.S.Successors.stands c.args.source.now) c.args.hidden.now.runs.items
    (at c.args.spot.now) c.loop-found.last (option_copied c.ahead-ahead.result) c.loop-found.found c.loop-found.spot c.loop-found.stand c.loop-found.steps _
    c.known.ensures.rising c.loop-found.invariant.passing c.loop-found-test.true shown

pub returns-in-Some-clause-found : goal.returns-in-Some-clause-found
returns-in-Some-clause-found g c =
    let at : Spot → Binding = g.S.Successors.at c.args.source.now in
    let run : HiddenRun = c.in-Some.run'.now in
    let hidden : g.S.View.shows c.args.source.now (at c.loop-found.spot).name ≡ false = search rules in
    let reach = subst (λ (n : List ℕ). IsAheadOf c.args.hidden.now.runs.items n (option_copied c.ahead-ahead.result)) c.in_ok-last.ensures.name c.ahead-ahead.ensures in
    ap (λ (b : Bool). cond b (Some (at c.end.new.spot)) None) c.end.ensures.found
    ∙ ap (λ (s : Spot). cond run.found (Some (at s)) None) c.end.ensures.spot
    ∙ passing_reaches (g.S.View.shows c.args.source.now) (g.S.Successors.instances c.args.source.now) at (g.S.Successors.is_there c.args.source.now) (g.S.Successors.stands c.args.source.now) c.args.hidden.now.runs.items
    (at c.args.spot.now) c.loop-found.last c.in_ok-own.own (option_copied c.ahead-ahead.result) run c.loop-found.found c.loop-found.spot c.loop-found.stand c.loop-found.steps _
    c.known.ensures.rising c.requires.runs reach c.loop-found.invariant.passing c.loop-found-test.true hidden c.in_ok-own.ensures.name c.in-Some.ensures.0 c.in-Some.ensures.1

pub loop-found-smaller : goal.loop-found-smaller
loop-found-smaller g c =
    let at : Spot → Binding = g.S.Successors.at c.args.source.now in
    let next = c.next-found-in-loop-found in
    passing_smaller (g.S.View.shows c.args.source.now) (g.S.Successors.instances c.args.source.now) at (g.S.Successors.is_there c.args.source.now) (g.S.Successors.stands c.args.source.now) c.args.hidden.now.runs.items
    c.loop-found.last c.in_ok-own.own c.loop-found.found next.result c.loop-found.spot next.new.spot
    c.known.ensures.rising c.loop-found-test.true c.in_ok-own.ensures.name (next.ensures.found ∙ ap (next_of (g.S.Successors.instances c.args.source.now)) c.as_slice-in-loop-found.ensures.value)

pub loop-found-preserved : goal.loop-found-preserved
loop-found-preserved g c =
    let at : Spot → Binding = g.S.Successors.at c.args.source.now in
    let next = c.next-found-in-loop-found in
    let hidden : g.S.View.shows c.args.source.now (at c.loop-found.spot).name ≡ false = search rules in
    let reach = subst (λ (n : List ℕ). IsAheadOf c.args.hidden.now.runs.items n (option_copied c.ahead-ahead.result)) c.in_ok-last.ensures.name c.ahead-ahead.ensures in
    record {
      lookup = c.is_shown_by.ensures.lookup;
      passing = passing_goes_on (g.S.View.shows c.args.source.now) (g.S.Successors.instances c.args.source.now) at (g.S.Successors.is_there c.args.source.now) (g.S.Successors.stands c.args.source.now) c.args.hidden.now.runs.items
          (at c.args.spot.now) c.loop-found.last c.in_ok-own.own c.in_ok-own.own (option_copied c.ahead-ahead.result) c.loop-found.found next.result c.loop-found.spot next.new.spot c.loop-found.stand next.new.stand
          c.loop-found.steps next.new.steps _
          c.known.ensures.rising c.requires.apart reach c.loop-found.invariant.passing c.loop-found-test.true hidden c.in_ok-own.ensures.name c.in_default.ensures
          (next.ensures.found ∙ ap (next_of (g.S.Successors.instances c.args.source.now)) c.as_slice-in-loop-found.ensures.value) next.ensures.there next.ensures.stands next.ensures.work;
    }

pub returns-clause-found : goal.returns-clause-found
returns-clause-found g c =
    let at : Spot → Binding = g.S.Successors.at c.args.source.now in
    passing_ends (g.S.View.shows c.args.source.now) (g.S.Successors.instances c.args.source.now) at (g.S.Successors.is_there c.args.source.now) (g.S.Successors.stands c.args.source.now) c.args.hidden.now.runs.items
    (at c.args.spot.now) c.loop-found.last (option_copied c.ahead-ahead.result) c.loop-found.found c.loop-found.spot c.loop-found.stand c.loop-found.steps _
    c.known.ensures.rising c.loop-found.invariant.passing c.loop-found-test.false
