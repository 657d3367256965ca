use Rattle.std.proofs.Common.{length, sym, ◌∙◌, arith}
use Rattle.vacm_core.proofs.Bests.{skips, takes, found, kept}
use Rattle.vacm_core.proofs.contest.deciding_row.Goals as goal
use Rattle.vacm_core.proofs.contest.deciding_row.Goals.{then-is_better, else-is_better}

pub loop-n-preserved : goal.loop-n-preserved
loop-n-preserved g c =
    let passes = g.C.Contest.passes c.args.contest.now in
    let order = g.met.C.Contest.ranks c.args.contest.now in
    elim c.if-is_better.branch [
      | then-is_better w ↦
          let better = sym c.is_better.ensures ∙ w.if-is_better.true in
          record {
            within = kept c.if-is_better.best c.loop-n.n (length c.args.rows.now) w.best-is (omega arith);
            best = rw w.best-is (takes order c.args.rows.now c.loop-n.n c.index-rows-n.result c.loop-n-test.true c.index-rows-n.is passes c.loop-n.best better c.loop-n.invariant.best);
          }
      | else-is_better w ↦
          let worse = sym c.is_better.ensures ∙ w.if-is_better.false in
          record {
            within = rw w.best-is c.loop-n.invariant.within;
            best = rw w.best-is (skips order c.args.rows.now c.loop-n.n c.index-rows-n.result c.loop-n-test.true c.index-rows-n.is passes c.loop-n.best worse c.loop-n.invariant.best);
          }
    ]

pub returns-clause-place : goal.returns-clause-place
returns-clause-place g c =
    let passes = g.C.Contest.passes c.args.contest.now in
    let beats = g.C.Contest.beats c.args.contest.now in
    found passes beats c.args.rows.now c.loop-n.n c.loop-n.best (omega arith) c.loop-n.invariant.best
