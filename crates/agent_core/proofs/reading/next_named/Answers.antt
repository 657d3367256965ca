use Rattle.std.proofs.Common.{◌≡◌, ◌∙◌, List, ℕ, Bool, true, false, cond, Option, Some, None, IfOk, sym, ap, subst, arith}
use Rattle.setphase_core.specs.declared.passing.Spot.{Spot}
use Rattle.setphase_core.proofs.States.{on_err_always}
use Rattle.message_core.specs.declared.binding.Binding.{Binding}
use Rattle.message_core.specs.Instances.{next_of}
use Rattle.agent_core.specs.Reading.{visible}
use Rattle.agent_core.proofs.Lacks.{least_after, passed_first}
use Rattle.agent_core.proofs.HiddenWalks.{next_here, next_none, next_past, left_most, passed_answer}
use Rattle.agent_core.proofs.reading.next_named.Goals as goal

pub returns-then-not-next-clause-found : goal.returns-then-not-next-clause-found
returns-then-not-next-clause-found g c =
    let shows : List ℕ → Bool = g.S.View.shows c.args.source.now in
    let rows : List Binding = g.S.Successors.instances c.args.source.now in
    let at : Spot → Binding = g.S.Successors.at c.args.source.now in
    let here : next_of rows c.args.name.now ≡ None = sym c.next.ensures.found ∙ ap (λ (b : Bool). cond b (Some (at c.next.new.spot)) None) c.if-not-next.true in
    next_none shows rows c.args.name.now c.known.ensures.rising here

pub returns-then-not-next-clause-work : goal.returns-then-not-next-clause-work
returns-then-not-next-clause-work g c =
    let shows : List ℕ → Bool = g.S.View.shows c.args.source.now in
    let rows : List Binding = g.S.Successors.instances c.args.source.now in
    let at : Spot → Binding = g.S.Successors.at c.args.source.now in
    omega (arith, c.next.ensures.work, left_most shows rows c.args.hidden.now.runs.items)

pub returns-in_err-own-clause-work : goal.returns-in_err-own-clause-work
returns-in_err-own-clause-work g c =
    let shows : List ℕ → Bool = g.S.View.shows c.args.source.now in
    let rows : List Binding = g.S.Successors.instances c.args.source.now in
    let at : Spot → Binding = g.S.Successors.at c.args.source.now in
    omega (arith, c.next.ensures.work, left_most shows rows c.args.hidden.now.runs.items)

pub returns-in_err-own-clause-lacks : goal.returns-in_err-own-clause-lacks
returns-in_err-own-clause-lacks g c =
    let shows : List ℕ → Bool = g.S.View.shows c.args.source.now in
    let rows : List Binding = g.S.Successors.instances c.args.source.now in
    let at : Spot → Binding = g.S.Successors.at c.args.source.now in
    on_err_always c.from_residual.result (record { row = at c.next.new.spot; passed = passed_first shows rows c.args.name.now c.next.result (at c.next.new.spot) c.known.ensures.rising c.next.ensures.found c.if-not-next.false; long = c.in_err-own.ensures.long })

pub returns-then-has_name-clause-found : goal.returns-then-has_name-clause-found
returns-then-has_name-clause-found g c =
    let shows : List ℕ → Bool = g.S.View.shows c.args.source.now in
    let rows : List Binding = g.S.Successors.instances c.args.source.now in
    let at : Spot → Binding = g.S.Successors.at c.args.source.now in
    let here : next_of rows c.args.name.now ≡ Some (at c.next.new.spot) = sym c.next.ensures.found ∙ ap (λ (b : Bool). cond b (Some (at c.next.new.spot)) None) c.if-not-next.false in
    let shown : shows (at c.next.new.spot).name ≡ true = ap shows (sym c.in_ok-own.ensures.name) ∙ sym c.has_name.ensures ∙ c.if-has_name.true in
    next_here shows rows c.args.name.now (at c.next.new.spot) c.known.ensures.rising here shown

pub returns-then-has_name-clause-work : goal.returns-then-has_name-clause-work
returns-then-has_name-clause-work g c =
    let shows : List ℕ → Bool = g.S.View.shows c.args.source.now in
    let rows : List Binding = g.S.Successors.instances c.args.source.now in
    let at : Spot → Binding = g.S.Successors.at c.args.source.now in
    omega (arith, c.next.ensures.work, left_most shows rows c.args.hidden.now.runs.items)

pub pass_hidden-requires-clause-contained : goal.pass_hidden-requires-clause-contained
pass_hidden-requires-clause-contained g c =
    let shows : List ℕ → Bool = g.S.View.shows c.args.source.now in
    let rows : List Binding = g.S.Successors.instances c.args.source.now in
    let at : Spot → Binding = g.S.Successors.at c.args.source.now in
    let here : next_of rows c.args.name.now ≡ Some (at c.next.new.spot) = sym c.next.ensures.found ∙ ap (λ (b : Bool). cond b (Some (at c.next.new.spot)) None) c.if-not-next.false in
    (least_after rows c.args.name.now (at c.next.new.spot) c.known.ensures.rising here).contained

pub returns-in_err-pass_hidden-clause-work : goal.returns-in_err-pass_hidden-clause-work
returns-in_err-pass_hidden-clause-work g c =
    let shows : List ℕ → Bool = g.S.View.shows c.args.source.now in
    let rows : List Binding = g.S.Successors.instances c.args.source.now in
    let at : Spot → Binding = g.S.Successors.at c.args.source.now in
    omega (arith, c.next.ensures.work, left_most shows rows c.args.hidden.now.runs.items, c.pass_hidden.ensures.few)

pub returns-in_err-pass_hidden-clause-lacks : goal.returns-in_err-pass_hidden-clause-lacks
returns-in_err-pass_hidden-clause-lacks g c =
    let shows : List ℕ → Bool = g.S.View.shows c.args.source.now in
    let rows : List Binding = g.S.Successors.instances c.args.source.now in
    let at : Spot → Binding = g.S.Successors.at c.args.source.now in
    on_err_always c.from_residual-in_err-pass_hidden.result (c.in_err-pass_hidden.ensures.lacks c.args.name.now (passed_first shows rows c.args.name.now c.next.result (at c.next.new.spot) c.known.ensures.rising c.next.ensures.found c.if-not-next.false))

pub returns-then-not-branch-clause-found : goal.returns-then-not-branch-clause-found
returns-then-not-branch-clause-found g c =
    let shows : List ℕ → Bool = g.S.View.shows c.args.source.now in
    let rows : List Binding = g.S.Successors.instances c.args.source.now in
    let at : Spot → Binding = g.S.Successors.at c.args.source.now in
    let here : next_of rows c.args.name.now ≡ Some (at c.next.new.spot) = sym c.next.ensures.found ∙ ap (λ (b : Bool). cond b (Some (at c.next.new.spot)) None) c.if-not-next.false in
    let shown : shows (at c.next.new.spot).name ≡ false = ap shows (sym c.in_ok-own.ensures.name) ∙ sym c.has_name.ensures ∙ c.if-has_name.false in
    let past : next_of (visible shows rows) c.args.name.now ≡ next_of (visible shows rows) (at c.next.new.spot).name = next_past shows rows c.args.name.now (at c.next.new.spot) c.known.ensures.rising here shown in
    let answer : next_of (visible shows rows) c.args.name.now ≡ None =
    past ∙ sym c.in_ok-pass_hidden.ensures.found ∙ ap (λ (b : Bool). cond b (Some (at c.pass_hidden.new.spot)) None) c.if-not-branch.true in
    answer

pub returns-then-not-branch-clause-work : goal.returns-then-not-branch-clause-work
returns-then-not-branch-clause-work g c =
    let shows : List ℕ → Bool = g.S.View.shows c.args.source.now in
    let rows : List Binding = g.S.Successors.instances c.args.source.now in
    let at : Spot → Binding = g.S.Successors.at c.args.source.now in
    omega (arith, c.next.ensures.work, left_most shows rows c.args.hidden.now.runs.items, c.pass_hidden.ensures.few)

pub returns-in_err-name-clause-work : goal.returns-in_err-name-clause-work
returns-in_err-name-clause-work g c =
    let shows : List ℕ → Bool = g.S.View.shows c.args.source.now in
    let rows : List Binding = g.S.Successors.instances c.args.source.now in
    let at : Spot → Binding = g.S.Successors.at c.args.source.now in
    omega (arith, c.next.ensures.work, left_most shows rows c.args.hidden.now.runs.items, c.pass_hidden.ensures.few)

pub returns-in_err-name-clause-lacks : goal.returns-in_err-name-clause-lacks
returns-in_err-name-clause-lacks g c =
    let shows : List ℕ → Bool = g.S.View.shows c.args.source.now in
    let rows : List Binding = g.S.Successors.instances c.args.source.now in
    let at : Spot → Binding = g.S.Successors.at c.args.source.now in
    let here : next_of rows c.args.name.now ≡ Some (at c.next.new.spot) = sym c.next.ensures.found ∙ ap (λ (b : Bool). cond b (Some (at c.next.new.spot)) None) c.if-not-next.false in
    let shown : shows (at c.next.new.spot).name ≡ false = ap shows (sym c.in_ok-own.ensures.name) ∙ sym c.has_name.ensures ∙ c.if-has_name.false in
    let past : next_of (visible shows rows) c.args.name.now ≡ next_of (visible shows rows) (at c.next.new.spot).name = next_past shows rows c.args.name.now (at c.next.new.spot) c.known.ensures.rising here shown in
    let answer : next_of (visible shows rows) c.args.name.now ≡ Some (at c.pass_hidden.new.spot) =
    past ∙ sym c.in_ok-pass_hidden.ensures.found ∙ ap (λ (b : Bool). cond b (Some (at c.pass_hidden.new.spot)) None) c.if-not-branch.false in
    on_err_always c.from_residual-in_err-name.result (record { row = at c.pass_hidden.new.spot; passed = passed_answer shows rows c.args.name.now (at c.pass_hidden.new.spot) answer; long = c.in_err-name.ensures.long })

pub returns-clause-found : goal.returns-clause-found
returns-clause-found g c =
    let shows : List ℕ → Bool = g.S.View.shows c.args.source.now in
    let rows : List Binding = g.S.Successors.instances c.args.source.now in
    let at : Spot → Binding = g.S.Successors.at c.args.source.now in
    let here : next_of rows c.args.name.now ≡ Some (at c.next.new.spot) = sym c.next.ensures.found ∙ ap (λ (b : Bool). cond b (Some (at c.next.new.spot)) None) c.if-not-next.false in
    let shown : shows (at c.next.new.spot).name ≡ false = ap shows (sym c.in_ok-own.ensures.name) ∙ sym c.has_name.ensures ∙ c.if-has_name.false in
    let past : next_of (visible shows rows) c.args.name.now ≡ next_of (visible shows rows) (at c.next.new.spot).name = next_past shows rows c.args.name.now (at c.next.new.spot) c.known.ensures.rising here shown in
    let answer : next_of (visible shows rows) c.args.name.now ≡ Some (at c.pass_hidden.new.spot) =
    past ∙ sym c.in_ok-pass_hidden.ensures.found ∙ ap (λ (b : Bool). cond b (Some (at c.pass_hidden.new.spot)) None) c.if-not-branch.false in
    answer

pub returns-clause-work : goal.returns-clause-work
returns-clause-work g c =
    let shows : List ℕ → Bool = g.S.View.shows c.args.source.now in
    let rows : List Binding = g.S.Successors.instances c.args.source.now in
    let at : Spot → Binding = g.S.Successors.at c.args.source.now in
    omega (arith, c.next.ensures.work, left_most shows rows c.args.hidden.now.runs.items, c.pass_hidden.ensures.few)
