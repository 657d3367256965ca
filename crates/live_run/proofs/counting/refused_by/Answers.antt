use Rattle.std.proofs.Common.{sym, ap, ◌∙◌, arith, take}
use Rattle.live_run.specs.Reports.{refused_in, refused_by, count_up_to_max}
use Rattle.live_run.proofs.Gathering.{one_more}
use Rattle.live_run.proofs.Counts.{refused_by-snoc, count_up_to_max-twice}
use Rattle.live_run.proofs.counting.refused_by.Goals as goal

pub loop-ran-preserved : goal.loop-ran-preserved
loop-ran-preserved c =
    let i = c.loop-ran.ran-index in
    let r = c.ran-item.result in
    let more = ap refused_by (one_more c.args.runs.now i r (omega arith) c.ran-item.is) ∙ refused_by-snoc (take i c.args.runs.now) r in
    count_up_to_max-twice c.loop-ran.count (refused_by (take i c.args.runs.now)) (refused_in r.trace) c.refused_in.result _ c.loop-ran.invariant (rw c.as_slice.ensures at c.refused_in.ensures) c.saturating_add-count.ensures ∙ ap count_up_to_max (sym more)
