use Rattle.std.proofs.Common.{◌≡◌, true, get_or, length, sym, ◌∙◌, arith}
use Rattle.frame_core.specs.Octets.{same_mac}
use Rattle.fdb_core.proofs.StaticOf.{of_front, no_row}
use borrow.Author.Count.{below_more}
use Rattle.fdb_core.proofs.static_rows.count_of.Goals as goal

pub returns-then-not-is_of-clause-rows : goal.returns-then-not-is_of-clause-rows
returns-then-not-is_of-clause-rows c =
    of_front c.args.address c.args.rows.now c.loop-i.i c.requires.rising c.requires.from c.loop-i.invariant (λ within. (c.is_of.ensures.long, sym c.is_of.ensures.is ∙ c.if-not-is_of.true))

pub returns-clause-rows : goal.returns-clause-rows
returns-clause-rows c =
    of_front c.args.address c.args.rows.now (length c.args.rows.now) c.requires.rising c.requires.from (λ k lt. c.loop-i.invariant k (omega arith)) (λ within. absurd (omega arith))

pub loop-i-preserved : goal.loop-i-preserved
loop-i-preserved c =
    below_more (λ k. same_mac (get_or c.args.rows.now k no_row).index.address c.args.address ≡ true) c.loop-i.i c.loop-i.invariant (sym c.is_of.ensures.is ∙ c.if-not-is_of.false)
