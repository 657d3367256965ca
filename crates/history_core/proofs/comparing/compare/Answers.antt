use Rattle.std.proofs.Common.{◌≤◌, refl, sym, ap, ◌∙◌, arith, take, drop, suc}
use Rattle.history_core.specs.Comparing.{count_older}
use Rattle.history_core.proofs.Rising.{least_behind, least_behind-snoc, fitting-snoc, not_rising, not_fitting, count_older-snoc, age-le, step, cut_at}
use Rattle.history_core.proofs.comparing.compare.Goals as goal

pub returns-then-not-is_above : goal.returns-then-not-is_above
returns-then-not-is_above c =
    let n = c.args.base_number in
    let es = c.args.entries.now in
    let rs = c.args.receipts.now in
    let i = c.loop-receipt.receipt-index in
    let r = c.receipt-item.result in
    let least = c.loop-receipt.invariant.least in
    record {
      before = take i rs;
      here = r;
      rest = drop (suc i) rs;
      parts = cut_at rs i r (omega arith) c.receipt-item.is;
      number = refl;
      fitting = c.loop-receipt.invariant.fitting;
      breaks = not_rising n es (take i rs) r (λ up.
          let yes = c.is_above.ensures.1 (omega (arith, least, up)) in
          let no' = c.if-not-is_above.true in
          cc);
    }

pub returns-then-not-fits : goal.returns-then-not-fits
returns-then-not-fits c =
    let n = c.args.base_number in
    let es = c.args.entries.now in
    let rs = c.args.receipts.now in
    let i = c.loop-receipt.receipt-index in
    let r = c.receipt-item.result in
    record {
      before = take i rs;
      here = r;
      rest = drop (suc i) rs;
      parts = cut_at rs i r (omega arith) c.receipt-item.is;
      number = refl;
      fitting = c.loop-receipt.invariant.fitting;
      breaks = not_fitting n es (take i rs) r (λ f.
          let yes = c.fits.ensures.1 f in
          let no' = c.if-not-fits.true in
          cc);
    }

pub loop-receipt-preserved : goal.loop-receipt-preserved
loop-receipt-preserved c =
    let n = c.args.base_number in
    let es = c.args.entries.now in
    let rs = c.args.receipts.now in
    let i = c.loop-receipt.receipt-index in
    let r = c.receipt-item.result in
    let kept = c.loop-receipt.invariant in
    let more = step rs i r (omega arith) c.receipt-item.is in
    let reached = c.is_above.ensures.0 c.if-not-is_above.false in
    let above : least_behind 0 (take i rs) ≤ r.number = omega (arith, kept.least, reached) in
    record {
      fitting = rw more (fitting-snoc n es (take i rs) r kept.fitting above
          (c.fits.ensures.0 c.if-not-fits.false));
      few = omega (arith, c.age-older.ensures, age-le n r, kept.few);
      older = omega (
        arith,
        c.age-older.ensures,
        ap (count_older n) more,
        count_older-snoc n (take i rs) r,
        kept.older,
      );
      least = sym (ap (least_behind 0) more ∙ least_behind-snoc 0 (take i rs) r);
    }
