use Rattle.std.proofs.Common.{◌++◌, List, ap, ◌∙◌, arith, length}
use Rattle.history_core.specs.declared.receipt.Receipt.{Receipt}
use Rattle.live_run.specs.Reports.{receipts_in}
use Rattle.live_run.proofs.Gathering.{length-receipts_in}
use Rattle.live_run.proofs.judging.collect.Goals as goal

pub returns-clause-requests : goal.returns-clause-requests
returns-clause-requests c =
    let all = c.in_ok-add_receipts.ensures ∙ ap (λ (l : List Receipt). l ++ receipts_in c.as_slice.result.now) c.new-receipts.ensures.items ∙ ap receipts_in c.as_slice.ensures.value in
    omega (arith, c.len-requests.ensures, c.add_receipts.new.receipts.ok, ap length all, length-receipts_in c.args.runs.now.workers.items)
