use Rattle.std.proofs.Common.{[], ◌∷◌, sym, ap, ◌∙◌, arith, take}
use Rattle.live_run.specs.Reports.{refused_in, count_up_to_max}
use Rattle.live_run.proofs.Gathering.{one_more}
use Rattle.live_run.proofs.Counts.{refused_in-append, count_up_to_max-more}
use Rattle.live_run.proofs.counting.refused_in.Goals as goal

pub loop-item-preserved : goal.loop-item-preserved
loop-item-preserved c =
    let i = c.loop-item.item-index in
    let x = c.item-item.result in
    let more = ap refused_in (one_more c.args.items.now i x (omega arith) c.item-item.is) ∙ refused_in-append (take i c.args.items.now) (x ∷ []) in
    count_up_to_max-more c.loop-item.count (refused_in (take i c.args.items.now)) (refused_in (x ∷ [])) _ c.loop-item.invariant (rw c.refused.ensures at c.saturating_add-count.ensures) ∙ ap count_up_to_max (sym more)
