use Rattle.std.proofs.Common.{◌≡◌}
use Rattle.std.specs.Vec.{vec_len}
use Rattle.agentd.proofs.main.Given as goal

abbrev pub invariant-loop-column : goal.invariant-loop-column
invariant-loop-column g l = vec_len l.objects ≡ l.column-index
