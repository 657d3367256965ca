use Rattle.std.proofs.Common.{◌≡◌, ◌∙◌, ◌+◌, ◌++◌, ◌∷◌, [], ◌<◌, ℕ, List, ap, arith, length, rules, set, take}
use Rattle.std.proofs.lemmas.List.{length-take, take_more_set}
use Rattle.std.proofs.lemmas.Result.{err_from_is_err_and}
use Rattle.oid_core.specs.Reading.{name_at}
use Rattle.oid_core.proofs.Begun.{same_root}
use Rattle.oid_core.proofs.Loop.{ends, full, goes_on, is_done, no_first, none_from, some_from, two_set}
use Rattle.oid_core.proofs.reading.read_numbers.Goals as goal

pub returns-in_err-first-clause-exact : goal.returns-in_err-first-clause-exact
returns-in_err-first-clause-exact c =
    let p = err_from_is_err_and c.from_residual.result c.from_residual.ensures.1 in
    rw (p.1, p.2) (λ other. no_first c.args.content.now c.in_err-first.field-0.0 (c.in_err-first.ensures.exact other))

pub loop-rest-init : goal.loop-rest-init
loop-rest-init c =
    let space = c.args.space.now in
    let a = c.root_of.result.0 in
    let b = c.root_of.result.1 in
    let items : List ℕ = take 2 (set (set space 0 a) 1 b) in
    let two : items ≡ a ∷ b ∷ [] = two_set space a b (omega (arith, c.requires)) in
    record {
      same = same_root c.args.content.now items c.in_ok-first.first c.in_ok-first.rest.now c.in_ok-first.ensures.exact (two ∙ c.root_of.ensures) (ap length two);
      some = omega arith;
      most = omega arith;
      len = search rules;
    }

pub returns-then-count-eq-MAX_NUMBERS-clause-exact : goal.returns-then-count-eq-MAX_NUMBERS-clause-exact
returns-then-count-eq-MAX_NUMBERS-clause-exact c =
    let l = c.loop-rest in
    let len : length (take l.count l.space) ≡ 128 = omega (arith, length-take l.count l.space, l.invariant.len, c.requires, c.if-count-eq-MAX_NUMBERS.true) in
    λ other. full (take l.count l.space) l.rest.now (name_at c.args.content.now) (some_from _ c.loop-rest-test.ensures) len l.invariant.same

pub returns-in_err-number-clause-exact : goal.returns-in_err-number-clause-exact
returns-in_err-number-clause-exact c =
    let l = c.loop-rest in
    let p = err_from_is_err_and c.from_residual-in_err-number.result c.from_residual-in_err-number.ensures.1 in
    let few : length (take l.count l.space) < 128 = omega (arith, length-take l.count l.space, l.invariant.len, l.invariant.most, c.requires, c.if-count-eq-MAX_NUMBERS.false) in
    rw (p.1, p.2) (λ other. ends (take l.count l.space) l.rest.now c.in_err-number.field-0.0 (name_at c.args.content.now) (some_from _ c.loop-rest-test.ensures) few (c.in_err-number.ensures.exact other) l.invariant.same)

pub loop-rest-preserved : goal.loop-rest-preserved
loop-rest-preserved c =
    let l = c.loop-rest in
    let n = c.in_ok-number.number in
    let front = take l.count l.space in
    let few : l.count < 128 = omega (arith, l.invariant.most, c.if-count-eq-MAX_NUMBERS.false) in
    let short : length front < 128 = omega (arith, length-take l.count l.space, few) in
    let more : take (l.count + 1) (set l.space l.count n) ≡ front ++ n ∷ [] = take_more_set l.space l.count n (omega (arith, few, l.invariant.len, c.requires)) in
    record {
      same = rw more (goes_on front l.rest.now n c.in_ok-number.after.now (name_at c.args.content.now) (some_from _ c.loop-rest-test.ensures) short c.in_ok-number.ensures.exact l.invariant.same);
      some = omega arith;
      most = omega (arith, few);
      len = search rules;
    }

pub returns-clause-exact : goal.returns-clause-exact
returns-clause-exact c =
    let l = c.loop-rest in
    is_done (take l.count l.space) l.rest.now (name_at c.args.content.now) (none_from _ c.loop-rest-test.ensures) l.invariant.same
