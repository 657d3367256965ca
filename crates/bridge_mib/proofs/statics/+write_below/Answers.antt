use Rattle.std.proofs.Common.{◌∙◌, ◌-◌, ◌∷◌, [], ap, length, take, List, ℕ}
use Rattle.bridge_mib.proofs.StaticRows.{greatest, below_none, between_more, between_last, between_stated, empty_is, more_is, greatest_is}
use Rattle.bridge_mib.proofs.statics.+write_below.Goals as goal

pub returns-in_default-clause-below : goal.returns-in_default-clause-below
returns-in_default-clause-below t c = λ some. below_none c.args.index.now some

pub returns-then-not-is_empty-clause-between : goal.returns-then-not-is_empty-clause-between
returns-then-not-is_empty-clause-between t c =
    let n = length c.in-Some.numbers.now in
    let x = c.in-Some-split_first.first.now in
    let index = c.in-Some-split_first.index.now in
    let r = c.write_below.result in
    let new = c.write_below.new.numbers in
    between_stated _ _ (x ∷ take r new) _ (x ∷ index) _ (ap length c.in-Some.ensures.cases.0) (more_is r x new) c.in-Some-split_first.ensures.cases.0 (between_more n x (take r new) index c.write_below.ensures.between)

pub returns-clause-between : goal.returns-clause-between
returns-clause-between t c =
    let n = length c.in-Some.numbers.now in
    let x = c.in-Some-split_first.first.now in
    let last = empty_is c.in-Some-split_first.index.now c.is_empty.result c.is_empty.ensures c.if-not-is_empty.false in
    between_stated _ _ ((x - 1) ∷ greatest n) _ (x ∷ []) _ (ap length c.in-Some.ensures.cases.0) (greatest_is (x - 1) n c.write_greatest.new.numbers c.write_greatest.ensures)
    (c.in-Some-split_first.ensures.cases.0 ∙ ap (λ (xs : List ℕ). x ∷ xs) last) (between_last n x c.if-first-eq0.false)
