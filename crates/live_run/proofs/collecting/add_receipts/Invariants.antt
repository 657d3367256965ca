use Rattle.std.specs.Prelude.{◌≡◌, ◌++◌, take}
use Rattle.live_run.specs.Reports.{receipts_in}
use Rattle.live_run.proofs.collecting.add_receipts.Given as goal

abbrev pub invariant-loop-ran : goal.invariant-loop-ran
invariant-loop-ran l = l.receipts.items ≡ l.initial.receipts.items ++ receipts_in (take l.ran-index l.runs)
