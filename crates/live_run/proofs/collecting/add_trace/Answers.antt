use Rattle.std.proofs.Common.{[], ◌∷◌, ◌++◌, sym, ap, ◌∙◌, arith, take, append_assoc, append-nil, List}
use Rattle.history_core.specs.declared.receipt.Receipt.{Receipt}
use Rattle.live_agent.specs.declared.trace.Item.{Item}
use Rattle.live_run.specs.Reports.{receipts_of}
use Rattle.live_run.proofs.Gathering.{one_more, receipts_of-append, receipts_of-none}
use Rattle.live_run.proofs.collecting.add_trace.Goals as goal

pub loop-item-preserved-in_default : goal.loop-item-preserved-in_default
loop-item-preserved-in_default c =
    let i = c.loop-item.item-index in
    let before = receipts_of (take i c.args.items.now) in
    let x = c.item-item.result in
    let more = ap receipts_of (one_more c.args.items.now i x (omega arith) c.item-item.is) ∙ receipts_of-append (take i c.args.items.now) (x ∷ []) ∙ ap (λ (l : List Receipt). before ++ l) (receipts_of-none x c.in_default.not-Entered) ∙ append-nil before in
    c.loop-item.invariant ∙ ap (λ (l : List Receipt). c.args.receipts.now.items ++ l) (sym more)

pub loop-item-preserved : goal.loop-item-preserved
loop-item-preserved c =
    let i = c.loop-item.item-index in
    let before = receipts_of (take i c.args.items.now) in
    let r = c.in-Entered.receipt in
    let more = ap receipts_of (one_more c.args.items.now i c.item-item.result (omega arith) c.item-item.is) ∙ receipts_of-append (take i c.args.items.now) (c.item-item.result ∷ []) ∙ ap (λ (y : Item). before ++ receipts_of (y ∷ [])) c.in-Entered.is in
    c.in_ok-push.ensures.items ∙ ap (λ (y : Receipt). c.loop-item.receipts.items ++ y ∷ []) c.in_ok-copy.ensures.value ∙ ap (λ (l : List Receipt). l ++ r ∷ []) c.loop-item.invariant ∙ append_assoc c.args.receipts.now.items before (r ∷ []) ∙ ap (λ (l : List Receipt). c.args.receipts.now.items ++ l) (sym more)
