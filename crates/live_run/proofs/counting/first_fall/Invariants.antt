use Rattle.std.specs.Prelude.{All, take}
use Rattle.live_run.specs.Reports.{RisesIn}
use Rattle.live_run.proofs.counting.first_fall.Given as goal

abbrev pub invariant-loop-ran : goal.invariant-loop-ran
invariant-loop-ran l = All RisesIn (take l.ran-index l.runs)
