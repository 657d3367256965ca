-- What is counted of receipts that agree with a history.
use Rattle.std.specs.Prelude.{◌≡◌, List}
use Rattle.history_core.specs.Comparing.{count_older}
use Rattle.history_core.specs.History.{History}
use Rattle.history_core.specs.declared.receipt.Receipt.{Receipt}
use Rattle.live_run.specs.Crews.{entered_by, entered_of}
use Rattle.live_run.specs.Reports.{Agrees, all_receipts}
use Rattle.live_run.specs.declared.judging.Agreement.{Agreement}
use Rattle.live_run.specs.declared.lines.Runs.{Runs}

pub record IsAgreement (h : History) (runs : Runs) (a : Agreement) : Type 0 where
  pub sorted : List Receipt
  pub agrees : Agrees h (all_receipts runs) sorted
  pub entries_are : a.entries ≡ entered_of runs
  pub requests_are : a.requests ≡ entered_by runs.workers.items
  pub older_are : a.older ≡ count_older h.base_number sorted
