use Rattle.std.proofs.Common.{◌<◌, length}
use Rattle.std.specs.Option.{ForSome}
use Rattle.vacm_core.proofs.Bests.{BestSo}
use Rattle.vacm_core.proofs.contest.deciding_row.Given as goal

-- the best of the rows so far
abbrev pub invariant-loop-n : goal.invariant-loop-n
invariant-loop-n g l = record {
  within : ForSome l.best (λ b. b < length l.rows);
  best : BestSo (g.C.Contest.passes l.contest) (g.C.Contest.beats l.contest) l.rows l.n l.best;
}
