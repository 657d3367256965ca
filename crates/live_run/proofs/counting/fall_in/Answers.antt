use Rattle.std.proofs.Common.{◌≤◌, ◌∙◌, List, [], ◌∷◌, ◌++◌, refl, sym, ap, arith, take, drop, suc, append-nil}
use Rattle.history_core.specs.declared.receipt.Receipt.{Receipt}
use Rattle.history_core.proofs.Rising.{least_behind, least_behind-snoc, Rises-snoc, Rises-last}
use Rattle.live_agent.specs.declared.trace.Item.{Item}
use Rattle.live_run.specs.Reports.{receipts_of}
use Rattle.live_run.proofs.Gathering.{one_more, cut_at, receipts_of-append, receipts_of-none}
use Rattle.live_run.proofs.counting.fall_in.Goals as goal

pub loop-item-preserved-in_default : goal.loop-item-preserved-in_default
loop-item-preserved-in_default c =
    let items = c.args.items.now in
    let i = c.loop-item.item-index in
    let x = c.item-item.result in
    let before = receipts_of (take i items) in
    let more = ap receipts_of (one_more items i x (omega arith) c.item-item.is) ∙ receipts_of-append (take i items) (x ∷ []) ∙ ap (λ (l : List Receipt). before ++ l) (receipts_of-none x c.in_default.not-Entered) ∙ append-nil before in
    record { rises = rw more c.loop-item.invariant.rises; least = rw more c.loop-item.invariant.least }

pub returns-then-not-is_above : goal.returns-then-not-is_above
returns-then-not-is_above c =
    let items = c.args.items.now in
    let i = c.loop-item.item-index in
    let x = c.item-item.result in
    let r = c.in-Entered.receipt in
    let before = receipts_of (take i items) in
    let least = c.loop-item.invariant.least in
    record {
      before = before;
      here = r;
      rest = receipts_of (drop (suc i) items);
      parts = ap receipts_of (cut_at items i x (omega arith) c.item-item.is) ∙ receipts_of-append (take i items) (x ∷ drop (suc i) items) ∙ ap (λ (y : Item). before ++ receipts_of (y ∷ drop (suc i) items)) c.in-Entered.is;
      number_is = refl;
      rises = c.loop-item.invariant.rises;
      falls = λ up.
          let last = Rises-last 0 before r up in
          let yes = c.is_above.ensures.1 (omega (arith, least, last)) in
          let no' = c.if-not-is_above.true in
          cc;
    }

pub loop-item-preserved : goal.loop-item-preserved
loop-item-preserved c =
    let items = c.args.items.now in
    let i = c.loop-item.item-index in
    let x = c.item-item.result in
    let r = c.in-Entered.receipt in
    let before = receipts_of (take i items) in
    let least = c.loop-item.invariant.least in
    let more = ap receipts_of (one_more items i x (omega arith) c.item-item.is) ∙ receipts_of-append (take i items) (x ∷ []) ∙ ap (λ (y : Item). before ++ receipts_of (y ∷ [])) c.in-Entered.is in
    let reached = c.is_above.ensures.0 c.if-not-is_above.false in
    let above : least_behind 0 before ≤ r.number = omega (arith, least, reached) in
    record {
      rises = rw more (Rises-snoc 0 before r c.loop-item.invariant.rises above);
      least = sym (ap (least_behind 0) more ∙ least_behind-snoc 0 before r);
    }
