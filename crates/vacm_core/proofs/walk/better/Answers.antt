use Rattle.std.proofs.Common.{ℕ, Some, sym, subst, ◌∙◌}
use Rattle.std.proofs.lemmas.Option.{same_Some, none-some}
use Rattle.vacm_core.specs.Trees.{Covers}
use Rattle.vacm_core.proofs.Better.{taken, covers_itself, covers_worse, covers_past}
use Rattle.vacm_core.proofs.walk.better.Goals as goal

pub returns-in-Some-clause-later : goal.returns-in-Some-clause-later
returns-in-Some-clause-later g c =
    taken (g.met.C.Contest.ranks c.args.contest.now) (g.C.Contest.passes c.args.contest.now) c.args.rows.now c.args.best c.in-Some.n c.index-rows-n.result c.requires
    c.if-n-rows.true c.index-rows-n.is (sym c.is_better.ensures ∙ c.if-is_better.true)

pub returns-in-Some-clause-here : goal.returns-in-Some-clause-here
returns-in-Some-clause-here g c n is =
    let passes = g.C.Contest.passes c.args.contest.now in
    subst (λ (k : ℕ). Covers passes (g.C.Contest.beats c.args.contest.now) c.args.rows.now (Some c.in-Some.n) k) (same_Some c.in-Some.n n (sym c.in-Some.is ∙ is))
    (covers_itself (g.met.C.Contest.ranks c.args.contest.now) passes c.args.rows.now c.in-Some.n)

pub returns-in_default-clause-here : goal.returns-in_default-clause-here
returns-in_default-clause-here g c n is =
    let passes = g.C.Contest.passes c.args.contest.now in
    subst (λ (k : ℕ). Covers passes (g.C.Contest.beats c.args.contest.now) c.args.rows.now c.args.best k) (same_Some c.in-Some.n n (sym c.in-Some.is ∙ is))
    (covers_worse (g.met.C.Contest.ranks c.args.contest.now) passes c.args.rows.now c.args.best c.in-Some.n c.index-rows-n.result c.if-n-rows.true c.index-rows-n.is
    (sym c.is_better.ensures ∙ c.if-is_better.false))

pub returns-in_default-2-clause-here : goal.returns-in_default-2-clause-here
returns-in_default-2-clause-here g c n is =
    let passes = g.C.Contest.passes c.args.contest.now in
    subst (λ (k : ℕ). Covers passes (g.C.Contest.beats c.args.contest.now) c.args.rows.now c.args.best k) (same_Some c.in-Some.n n (sym c.in-Some.is ∙ is))
    (covers_past (g.met.C.Contest.ranks c.args.contest.now) passes c.args.rows.now c.args.best c.in-Some.n c.if-n-rows.false)

pub returns-in_default-3-clause-here : goal.returns-in_default-3-clause-here
returns-in_default-3-clause-here g c n is = absurd (none-some n (sym c.in_default.is ∙ is))
