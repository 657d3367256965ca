use Rattle.std.proofs.Common.{◌≤◌, ◌+◌, ◌∙◌, Bool, cond, List, ℕ, map, Result, Some, None, IsTrue, sym, subst, arith}
use Rattle.setphase_core.specs.Objects.{ObjectRow}
use Rattle.setphase_core.specs.Registry.{rows_of, prefixes_of}
use Rattle.setphase_core.specs.Searching.{IsPlace}
use Rattle.setphase_core.specs.Walking.{first_place, IsPassedOrFound}
use Rattle.setphase_core.proofs.Ordered.{ordered_from}
use Rattle.setphase_core.proofs.Searches.{start_found, start_behind}
use Rattle.setphase_core.proofs.Passed as passed
use Rattle.setphase_core.proofs.Walks.{ahead_own, found_whole, found_after}
use Rattle.setphase_core.proofs.passing.next_spot.Goals as goal

pub returns-in-Err-clause-found : goal.returns-in-Err-clause-found
returns-in-Err-clause-found g c =
    let passes : List ℕ → Bool = g.P.Passing.passes c.args.passing.now in
    let rows : List ObjectRow = rows_of (map g.O.MibObject.state c.args.objects.now) in
    let place = subst (IsPlace (prefixes_of rows) c.args.name.now) c.in-Err.is c.requires.place in
    let start = start_behind (prefixes_of rows) c.args.name.now c.in-Err.behind place.0 place.1 in
    found_whole passes rows c.args.world.now c.args.name.now c.in-Err.behind _ (passed.found_from_start passes c.args.name.now c.in-Err.behind rows c.args.world.now start) c.spot_behind.ensures.found

pub returns-in-Err-clause-work : goal.returns-in-Err-clause-work
returns-in-Err-clause-work g c =
    let passes : List ℕ → Bool = g.P.Passing.passes c.args.passing.now in
    let rows : List ObjectRow = rows_of (map g.O.MibObject.state c.args.objects.now) in
    let place = subst (IsPlace (prefixes_of rows) c.args.name.now) c.in-Err.is c.requires.place in
    let start = start_behind (prefixes_of rows) c.args.name.now c.in-Err.behind place.0 place.1 in
    passed.steps_from passes c.args.name.now c.in-Err.behind rows c.args.world.now c.args.steps.now c.spot_behind.new.steps start
    (c.spot_behind.ensures.work (passed.ordered_drop c.in-Err.behind rows c.requires.ordered))

pub spot_behind-requires-in-Ok-clause-ahead : goal.spot_behind-requires-in-Ok-clause-ahead
spot_behind-requires-in-Ok-clause-ahead g c =
    let names : List (List ℕ) = prefixes_of (rows_of (map g.O.MibObject.state c.args.objects.now)) in
    ahead_own names c.args.name.now c.in-Ok.own (ordered_from _ c.requires.ordered) (subst (IsPlace names c.args.name.now) c.in-Ok.is c.requires.place)

pub returns-then-own_spot-clause-found : goal.returns-then-own_spot-clause-found
returns-then-own_spot-clause-found g c =
    let passes : List ℕ → Bool = g.P.Passing.passes c.args.passing.now in
    let rows : List ObjectRow = rows_of (map g.O.MibObject.state c.args.objects.now) in
    let start = start_found (prefixes_of rows) c.args.name.now c.in-Ok.own (ordered_from _ c.requires.ordered) (subst (IsPlace (prefixes_of rows) c.args.name.now) c.in-Ok.is c.requires.place) in
    let spot = subst (λ b. IsPassedOrFound passes rows c.args.world.now c.args.name.now c.in-Ok.own c.args.steps.now c.own_spot.new.steps (cond b (Some c.own_spot.new.spot) None)) c.if-own_spot.true c.own_spot.ensures in
    found_whole passes rows c.args.world.now c.args.name.now c.in-Ok.own (Some c.own_spot.new.spot) (passed.found_from_start passes c.args.name.now c.in-Ok.own rows c.args.world.now start) spot.0

pub returns-then-own_spot-clause-work : goal.returns-then-own_spot-clause-work
returns-then-own_spot-clause-work g c =
    let passes : List ℕ → Bool = g.P.Passing.passes c.args.passing.now in
    let rows : List ObjectRow = rows_of (map g.O.MibObject.state c.args.objects.now) in
    let start = start_found (prefixes_of rows) c.args.name.now c.in-Ok.own (ordered_from _ c.requires.ordered) (subst (IsPlace (prefixes_of rows) c.args.name.now) c.in-Ok.is c.requires.place) in
    let spot = subst (λ b. IsPassedOrFound passes rows c.args.world.now c.args.name.now c.in-Ok.own c.args.steps.now c.own_spot.new.steps (cond b (Some c.own_spot.new.spot) None)) c.if-own_spot.true c.own_spot.ensures in
    passed.steps_from passes c.args.name.now c.in-Ok.own rows c.args.world.now c.args.steps.now c.own_spot.new.steps start (spot.1 (passed.ordered_drop c.in-Ok.own rows c.requires.ordered))

pub returns-else-own_spot-clause-found : goal.returns-else-own_spot-clause-found
returns-else-own_spot-clause-found g c =
    let passes : List ℕ → Bool = g.P.Passing.passes c.args.passing.now in
    let rows : List ObjectRow = rows_of (map g.O.MibObject.state c.args.objects.now) in
    let start = start_found (prefixes_of rows) c.args.name.now c.in-Ok.own (ordered_from _ c.requires.ordered) (subst (IsPlace (prefixes_of rows) c.args.name.now) c.in-Ok.is c.requires.place) in
    let walked = subst (λ b. IsPassedOrFound passes rows c.args.world.now c.args.name.now c.in-Ok.own c.args.steps.now c.own_spot.new.steps (cond b (Some c.own_spot.new.spot) None)) c.if-own_spot.false c.own_spot.ensures in
    found_whole passes rows c.args.world.now c.args.name.now (c.in-Ok.own + 1) _ (walked.found ∙ passed.found_from_start passes c.args.name.now c.in-Ok.own rows c.args.world.now start) c.spot_behind-in-Ok.ensures.found

pub returns-else-own_spot-clause-work : goal.returns-else-own_spot-clause-work
returns-else-own_spot-clause-work g c =
    let passes : List ℕ → Bool = g.P.Passing.passes c.args.passing.now in
    let rows : List ObjectRow = rows_of (map g.O.MibObject.state c.args.objects.now) in
    let start = start_found (prefixes_of rows) c.args.name.now c.in-Ok.own (ordered_from _ c.requires.ordered) (subst (IsPlace (prefixes_of rows) c.args.name.now) c.in-Ok.is c.requires.place) in
    let walked = subst (λ b. IsPassedOrFound passes rows c.args.world.now c.args.name.now c.in-Ok.own c.args.steps.now c.own_spot.new.steps (cond b (Some c.own_spot.new.spot) None)) c.if-own_spot.false c.own_spot.ensures in
    passed.steps_from passes c.args.name.now c.in-Ok.own rows c.args.world.now c.args.steps.now c.spot_behind-in-Ok.new.steps start
    (walked.work c.spot_behind-in-Ok.new.steps (λ o. c.spot_behind-in-Ok.ensures.work o) (passed.ordered_drop c.in-Ok.own rows c.requires.ordered))

pub returns-in-Err-clause-behind : goal.returns-in-Err-clause-behind
returns-in-Err-clause-behind g c =
    let passes : List ℕ → Bool = g.P.Passing.passes c.args.passing.now in
    let rows : List ObjectRow = rows_of (map g.O.MibObject.state c.args.objects.now) in
    subst (λ (place : Result ℕ ℕ). IsTrue c.spot_behind.result → first_place place ≤ c.spot_behind.new.spot.place) (sym c.in-Err.is)
    (found_after passes rows c.args.world.now c.args.name.now c.in-Err.behind c.in-Err.behind c.spot_behind.result c.spot_behind.new.spot (omega arith) c.spot_behind.ensures.found)

pub returns-then-own_spot-clause-behind : goal.returns-then-own_spot-clause-behind
returns-then-own_spot-clause-behind g c =
    let passes : List ℕ → Bool = g.P.Passing.passes c.args.passing.now in
    let rows : List ObjectRow = rows_of (map g.O.MibObject.state c.args.objects.now) in
    let spot = subst (λ b. IsPassedOrFound passes rows c.args.world.now c.args.name.now c.in-Ok.own c.args.steps.now c.own_spot.new.steps (cond b (Some c.own_spot.new.spot) None)) c.if-own_spot.true c.own_spot.ensures in
    λ _. subst (λ (place : Result ℕ ℕ). first_place place ≤ c.own_spot.new.spot.place) (sym c.in-Ok.is) spot.0.after

pub returns-else-own_spot-clause-behind : goal.returns-else-own_spot-clause-behind
returns-else-own_spot-clause-behind g c =
    let passes : List ℕ → Bool = g.P.Passing.passes c.args.passing.now in
    let rows : List ObjectRow = rows_of (map g.O.MibObject.state c.args.objects.now) in
    subst (λ (place : Result ℕ ℕ). IsTrue c.spot_behind-in-Ok.result → first_place place ≤ c.spot_behind-in-Ok.new.spot.place) (sym c.in-Ok.is)
    (found_after passes rows c.args.world.now c.args.name.now (c.in-Ok.own + 1) c.in-Ok.own c.spot_behind-in-Ok.result c.spot_behind-in-Ok.new.spot (omega arith) c.spot_behind-in-Ok.ensures.found)
