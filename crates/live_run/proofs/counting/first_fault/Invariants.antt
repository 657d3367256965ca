use Rattle.std.specs.Prelude.{◌≡◌, take, None}
use Rattle.live_run.specs.Reports.{first_fault}
use Rattle.live_run.proofs.counting.first_fault.Given as goal

abbrev pub invariant-loop-ran : goal.invariant-loop-ran
invariant-loop-ran l = first_fault (take l.ran-index l.runs) ≡ None
