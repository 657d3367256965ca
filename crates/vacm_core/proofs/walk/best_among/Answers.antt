use Rattle.std.proofs.Common.{ℕ, get_or, below_more, refl, subst}
use Rattle.std.proofs.lemmas.List.{get_or_default}
use Rattle.vacm_core.specs.Trees.{Covers}
use Rattle.vacm_core.proofs.walk.best_among.Goals as goal

pub loop-n-preserved : goal.loop-n-preserved
loop-n-preserved g c =
    let better = c.better-best.ensures in
    let numbers = c.args.numbers.now in
    let i = c.loop-n.n-index in
    let covers = Covers (g.C.Contest.passes c.args.contest.now) (g.C.Contest.beats c.args.contest.now) c.args.rows.now c.better-best.result in
    record {
      fit = better.later.fit;
      covers = λ k d. below_more (λ (j : ℕ). covers (get_or numbers j d)) i (λ j lt. better.later.kept (get_or numbers j d) (c.loop-n.invariant.covers j d lt))
          (subst covers (get_or_default numbers i 0 d c.loop-n-test.true) (better.here (get_or numbers i 0) refl)) k;
    }
