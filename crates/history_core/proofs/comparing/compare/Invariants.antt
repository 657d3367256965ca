use Rattle.std.specs.Prelude.{◌≡◌, ◌≤◌, take}
use Rattle.history_core.specs.Comparing.{IsFitting, count_older, least_after}
use Rattle.history_core.proofs.Rising.{least_behind}
use Rattle.history_core.proofs.comparing.compare.Given as goal

abbrev pub invariant-loop-receipt : goal.invariant-loop-receipt
invariant-loop-receipt l =
    record {
      fitting : IsFitting l.base_number l.entries (take l.receipt-index l.receipts);
      few : l.older ≤ l.receipt-index;
      older : l.older ≡ count_older l.base_number (take l.receipt-index l.receipts);
      least : least_after l.before ≡ least_behind 0 (take l.receipt-index l.receipts);
    }
