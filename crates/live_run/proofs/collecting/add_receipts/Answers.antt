use Rattle.std.proofs.Common.{◌++◌, sym, ap, ◌∙◌, arith, take, append_assoc, List}
use Rattle.history_core.specs.declared.receipt.Receipt.{Receipt}
use Rattle.live_agent.specs.declared.trace.Item.{Item}
use Rattle.live_run.specs.Reports.{receipts_of, receipts_in}
use Rattle.live_run.proofs.Gathering.{one_more, receipts_in-snoc}
use Rattle.live_run.proofs.collecting.add_receipts.Goals as goal

pub loop-ran-preserved : goal.loop-ran-preserved
loop-ran-preserved c =
    let i = c.loop-ran.ran-index in
    let r = c.ran-item.result in
    let before = receipts_in (take i c.args.runs.now) in
    let more = ap receipts_in (one_more c.args.runs.now i r (omega arith) c.ran-item.is) ∙ receipts_in-snoc (take i c.args.runs.now) r in
    c.in_ok-add_trace.ensures
    ∙ ap (λ (l : List Receipt). l ++ receipts_of c.as_slice.result.now) c.loop-ran.invariant
    ∙ ap (λ (l : List Item). (c.args.receipts.now.items ++ before) ++ receipts_of l) c.as_slice.ensures
    ∙ append_assoc c.args.receipts.now.items before (receipts_of r.trace)
    ∙ ap (λ (l : List Receipt). c.args.receipts.now.items ++ l) (sym more)
