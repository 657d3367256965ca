use Rattle.std.proofs.Common.{◌≡◌, length, take}
use Rattle.vacm_core.proofs.same.are_same.Given as goal

-- the rows so far are the same
abbrev pub invariant-loop-k : goal.invariant-loop-k
invariant-loop-k g l = record {
  lengths : length l.rows ≡ length l.others;
  same : take l.k l.rows ≡ take l.k l.others;
}
