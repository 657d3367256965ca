use Rattle.std.proofs.Common.{ℕ, ◌<◌, slice_index_or}
use Rattle.vacm_core.specs.Trees.{IsFit, Covers}
use Rattle.vacm_core.proofs.walk.best_among.Given as goal

-- the best of the rows of the numbers so far
abbrev pub invariant-loop-n : goal.invariant-loop-n
invariant-loop-n g l = record {
  fit : IsFit (g.C.Contest.passes l.contest) l.rows l.best;
  covers : (k d : ℕ) → k < l.n-index
      → Covers (g.C.Contest.passes l.contest) (g.C.Contest.beats l.contest) l.rows l.best (slice_index_or l.numbers k d);
}
