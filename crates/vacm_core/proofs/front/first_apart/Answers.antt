use Rattle.std.proofs.Common.{◌+◌, ◌<◌, ◌≤◌, if◌then◌else◌, min, Bool, Some, length, drop, sym, ap, ◌∙◌, arith}
use Rattle.vacm_core.specs.Fronts.{front_apart}
use Rattle.vacm_core.proofs.Apart.{apart_step, apart_end}
use Rattle.vacm_core.proofs.front.first_apart.Goals as goal

pub returns-then-not-agrees_at : goal.returns-then-not-agrees_at
returns-then-not-agrees_at c =
    let mask = c.args.mask.now in
    let subtree = c.args.subtree.now in
    let name = c.args.name.now in
    let k = c.loop-k.k in
    let within : k < length subtree = omega (arith, c.loop-k-test.true, c.min-k-end.ensures) in
    let reached : k < length name = omega (arith, c.loop-k-test.true, c.min-k-end.ensures) in
    let here = sym c.agrees_at.ensures ∙ c.if-not-agrees_at.true in
    sym
    (c.loop-k.invariant ∙ apart_step mask k subtree name within reached
    ∙ ap (λ (b : Bool). if b then front_apart (k + 1) mask (drop (k + 1) subtree) (drop (k + 1) name) else Some (k + 1)) here)

pub loop-k-preserved : goal.loop-k-preserved
loop-k-preserved c =
    let mask = c.args.mask.now in
    let subtree = c.args.subtree.now in
    let name = c.args.name.now in
    let k = c.loop-k.k in
    let within : k < length subtree = omega (arith, c.loop-k-test.true, c.min-k-end.ensures) in
    let reached : k < length name = omega (arith, c.loop-k-test.true, c.min-k-end.ensures) in
    let here = sym c.agrees_at.ensures ∙ c.if-not-agrees_at.false in
    c.loop-k.invariant ∙ apart_step mask k subtree name within reached
    ∙ ap (λ (b : Bool). if b then front_apart (k + 1) mask (drop (k + 1) subtree) (drop (k + 1) name) else Some (k + 1)) here

pub returns : goal.returns
returns c =
    let subtree = c.args.subtree.now in
    let name = c.args.name.now in
    let past : min (length subtree) (length name) ≤ c.loop-k.k = omega (arith, c.loop-k-test.false, c.min-k-end.ensures) in
    sym (c.loop-k.invariant ∙ apart_end c.args.mask.now c.loop-k.k subtree name past)
