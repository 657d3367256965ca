use Rattle.std.specs.Prelude.{◌≡◌, take}
use Rattle.history_core.specs.Comparing.{Rises, least_after}
use Rattle.history_core.proofs.Rising.{least_behind}
use Rattle.live_run.specs.Reports.{receipts_of}
use Rattle.live_run.proofs.counting.fall_in.Given as goal

abbrev pub invariant-loop-item : goal.invariant-loop-item
invariant-loop-item l =
    record {
      rises : Rises 0 (receipts_of (take l.item-index l.items));
      least : least_after l.before ≡ least_behind 0 (receipts_of (take l.item-index l.items));
    }
