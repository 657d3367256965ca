use Rattle.std.proofs.Common.{◌≡◌, ◌∙◌, List, ℕ, Bool, true, false, cond, Option, Some, None, IfOk, sym, ap, subst, arith}
use Rattle.setphase_core.specs.declared.passing.Spot.{Spot}
use Rattle.setphase_core.proofs.States.{on_err_always}
use Rattle.message_core.specs.declared.binding.Binding.{Binding}
use Rattle.message_core.specs.Instances.{next_of}
use Rattle.agent_core.specs.Reading.{visible}
use Rattle.agent_core.proofs.Lacks.{least_after, passed_first}
use Rattle.agent_core.proofs.HiddenWalks.{next_here, next_none, next_past, left_most, on_err_then}
use Rattle.agent_core.proofs.reading.next_shown.Goals as goal

pub returns-then-not-next-clause-found : goal.returns-then-not-next-clause-found
returns-then-not-next-clause-found g c =
    let shows : List ℕ → Bool = g.S.View.shows c.args.source.now in
    let rows : List Binding = g.S.Successors.instances c.args.source.now in
    let at : Spot → Binding = g.S.Successors.at c.args.source.now in
    let here : next_of rows c.args.name.now ≡ None = sym c.next.ensures.found ∙ ap (λ (b : Bool). cond b (Some (at c.next.new.spot)) None) c.if-not-next.true in
    sym (next_none shows rows c.args.name.now c.known.ensures.rising here)

pub returns-then-not-next-clause-work : goal.returns-then-not-next-clause-work
returns-then-not-next-clause-work g c =
    let shows : List ℕ → Bool = g.S.View.shows c.args.source.now in
    let rows : List Binding = g.S.Successors.instances c.args.source.now in
    let at : Spot → Binding = g.S.Successors.at c.args.source.now in
    omega (arith, c.next.ensures.work, left_most shows rows c.args.hidden.now.runs.items)

pub returns-in_err-is_shown_there-clause-work : goal.returns-in_err-is_shown_there-clause-work
returns-in_err-is_shown_there-clause-work g c =
    let shows : List ℕ → Bool = g.S.View.shows c.args.source.now in
    let rows : List Binding = g.S.Successors.instances c.args.source.now in
    let at : Spot → Binding = g.S.Successors.at c.args.source.now in
    omega (arith, c.next.ensures.work, left_most shows rows c.args.hidden.now.runs.items)

pub returns-in_err-is_shown_there-clause-lacks : goal.returns-in_err-is_shown_there-clause-lacks
returns-in_err-is_shown_there-clause-lacks g c =
    let shows : List ℕ → Bool = g.S.View.shows c.args.source.now in
    let rows : List Binding = g.S.Successors.instances c.args.source.now in
    let at : Spot → Binding = g.S.Successors.at c.args.source.now in
    on_err_always c.from_residual.result (record { row = at c.next.new.spot; passed = passed_first shows rows c.args.name.now c.next.result (at c.next.new.spot) c.known.ensures.rising c.next.ensures.found c.if-not-next.false; long = c.in_err-is_shown_there.ensures.long })

pub returns-then-branch-clause-found : goal.returns-then-branch-clause-found
returns-then-branch-clause-found g c =
    let shows : List ℕ → Bool = g.S.View.shows c.args.source.now in
    let rows : List Binding = g.S.Successors.instances c.args.source.now in
    let at : Spot → Binding = g.S.Successors.at c.args.source.now in
    let here : next_of rows c.args.name.now ≡ Some (at c.next.new.spot) = sym c.next.ensures.found ∙ ap (λ (b : Bool). cond b (Some (at c.next.new.spot)) None) c.if-not-next.false in
    let shown : shows (at c.next.new.spot).name ≡ true = sym c.in_ok-is_shown_there.ensures.shown ∙ c.if-branch.true in
    sym (next_here shows rows c.args.name.now (at c.next.new.spot) c.known.ensures.rising here shown)

pub returns-then-branch-clause-work : goal.returns-then-branch-clause-work
returns-then-branch-clause-work g c =
    let shows : List ℕ → Bool = g.S.View.shows c.args.source.now in
    let rows : List Binding = g.S.Successors.instances c.args.source.now in
    let at : Spot → Binding = g.S.Successors.at c.args.source.now in
    omega (arith, c.next.ensures.work, left_most shows rows c.args.hidden.now.runs.items)

pub pass_hidden-requires-clause-contained : goal.pass_hidden-requires-clause-contained
pass_hidden-requires-clause-contained g c =
    let shows : List ℕ → Bool = g.S.View.shows c.args.source.now in
    let rows : List Binding = g.S.Successors.instances c.args.source.now in
    let at : Spot → Binding = g.S.Successors.at c.args.source.now in
    let here : next_of rows c.args.name.now ≡ Some (at c.next.new.spot) = sym c.next.ensures.found ∙ ap (λ (b : Bool). cond b (Some (at c.next.new.spot)) None) c.if-not-next.false in
    (least_after rows c.args.name.now (at c.next.new.spot) c.known.ensures.rising here).contained

pub returns-clause-found : goal.returns-clause-found
returns-clause-found g c =
    let shows : List ℕ → Bool = g.S.View.shows c.args.source.now in
    let rows : List Binding = g.S.Successors.instances c.args.source.now in
    let at : Spot → Binding = g.S.Successors.at c.args.source.now in
    let here : next_of rows c.args.name.now ≡ Some (at c.next.new.spot) = sym c.next.ensures.found ∙ ap (λ (b : Bool). cond b (Some (at c.next.new.spot)) None) c.if-not-next.false in
    let shown : shows (at c.next.new.spot).name ≡ false = sym c.in_ok-is_shown_there.ensures.shown ∙ c.if-branch.false in
    subst (λ (o : Option Binding). IfOk c.pass_hidden.result (λ (found : Bool). cond found (Some (at c.pass_hidden.new.spot)) None ≡ o))
    (sym (next_past shows rows c.args.name.now (at c.next.new.spot) c.known.ensures.rising here shown)) c.pass_hidden.ensures.found

pub returns-clause-work : goal.returns-clause-work
returns-clause-work g c =
    let shows : List ℕ → Bool = g.S.View.shows c.args.source.now in
    let rows : List Binding = g.S.Successors.instances c.args.source.now in
    let at : Spot → Binding = g.S.Successors.at c.args.source.now in
    omega (arith, c.next.ensures.work, left_most shows rows c.args.hidden.now.runs.items, c.pass_hidden.ensures.few)

pub returns-clause-lacks : goal.returns-clause-lacks
returns-clause-lacks g c =
    let shows : List ℕ → Bool = g.S.View.shows c.args.source.now in
    let rows : List Binding = g.S.Successors.instances c.args.source.now in
    let at : Spot → Binding = g.S.Successors.at c.args.source.now in
    on_err_then c.pass_hidden.result (λ f. f c.args.name.now (passed_first shows rows c.args.name.now c.next.result (at c.next.new.spot) c.known.ensures.rising c.next.ensures.found c.if-not-next.false)) c.pass_hidden.ensures.lacks
