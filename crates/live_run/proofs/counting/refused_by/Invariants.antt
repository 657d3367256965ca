use Rattle.std.specs.Prelude.{◌≡◌, take}
use Rattle.live_run.specs.Reports.{refused_by, count_up_to_max}
use Rattle.live_run.proofs.counting.refused_by.Given as goal

abbrev pub invariant-loop-ran : goal.invariant-loop-ran
invariant-loop-ran l = l.count ≡ count_up_to_max (refused_by (take l.ran-index l.runs))
