use Rattle.vacm_core.proofs.Tied.{TiedSoFar}
use Rattle.vacm_core.proofs.repeats.least_tied.Given as goal

-- the least so far
abbrev pub invariant-loop-k : goal.invariant-loop-k
invariant-loop-k g l = TiedSoFar g.W.WrittenRow.key_cmp l.rows l.numbers l.k l.least
