use Rattle.std.specs.Prelude.{◌≡◌, ◌++◌, take}
use Rattle.live_run.specs.Reports.{receipts_of}
use Rattle.live_run.proofs.collecting.add_trace.Given as goal

abbrev pub invariant-loop-item : goal.invariant-loop-item
invariant-loop-item l = l.receipts.items ≡ l.initial.receipts.items ++ receipts_of (take l.item-index l.items)
