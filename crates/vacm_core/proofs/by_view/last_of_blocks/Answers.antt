use Rattle.std.proofs.Common.{◌≡◌, ◌+◌, ◌-◌, ◌*◌, ℕ, sym, subst, arith}
use Rattle.vacm_core.specs.OfView.{IsLastMatch, HaveNot}
use Rattle.vacm_core.proofs.BlockSearch.{between, left_between, have_more, found_here}
use Rattle.vacm_core.proofs.by_view.last_of_blocks.Goals as goal

pub last_left-requires-clause-left : goal.last_left-requires-clause-left
last_left-requires-clause-left c =
    let from = c.max-from.result in
    let to = c.min-to.result in
    left_between c.args.rows.now c.args.view.now c.args.name.now c.args.index.now c.args.blocks.now c.left_of.result (c.loop-block.block - 1) from to
    c.requires.blocks c.left_of.ensures (omega (arith, c.max-from.ensures)) (omega (arith, c.min-to.ensures)) (omega (arith, c.min-to.ensures, c.requires.end))

pub returns-in-Some : goal.returns-in-Some
returns-in-Some c =
    let rows = c.args.rows.now in
    let index = c.args.index.now in
    let view = c.args.view.now in
    let name = c.args.name.now in
    let first = c.args.range.0 in
    let end = c.args.range.1 in
    let b = c.loop-block.block - 1 in
    let from = c.max-from.result in
    let to = c.min-to.result in
    let next : b + 1 ≡ c.loop-block.block = omega (arith, c.loop-block-test.true) in
    let last = subst (IsLastMatch rows view name (between rows view name index from to)) c.in-Some.is c.last_left.ensures in
    let behind = subst (λ (k : ℕ). HaveNot rows view name (between rows view name index first end) (k * 64 - first)) (sym next) c.loop-block.invariant in
    found_here rows view name index first end c.requires.order c.requires.end b from to c.max-from.ensures c.min-to.ensures (omega (arith, c.loop-block-test.true)) (omega (arith, c.loop-block-test.true, c.loop-block.auto.block, c.div_ceil-block.ensures)) c.in-Some.n last behind

pub loop-block-preserved : goal.loop-block-preserved
loop-block-preserved c =
    let rows = c.args.rows.now in
    let index = c.args.index.now in
    let view = c.args.view.now in
    let name = c.args.name.now in
    let first = c.args.range.0 in
    let end = c.args.range.1 in
    let b = c.loop-block.block - 1 in
    let from = c.max-from.result in
    let to = c.min-to.result in
    let next : b + 1 ≡ c.loop-block.block = omega (arith, c.loop-block-test.true) in
    let none = subst (IsLastMatch rows view name (between rows view name index from to)) c.in_default.is c.last_left.ensures in
    let behind = subst (λ (k : ℕ). HaveNot rows view name (between rows view name index first end) (k * 64 - first)) (sym next) c.loop-block.invariant in
    have_more rows view name index first end c.requires.order c.requires.end b from to c.max-from.ensures c.min-to.ensures (omega (arith, c.loop-block-test.true)) (omega (arith, c.loop-block-test.true, c.loop-block.auto.block, c.div_ceil-block.ensures)) none behind
