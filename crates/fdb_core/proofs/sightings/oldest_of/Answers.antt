use Rattle.std.proofs.Common.{◌∙◌, ap, arith}
use Rattle.fdb_core.specs.Seen.{oldest_tick}
use Rattle.fdb_core.proofs.Moments.{oldest_not_later}
use Rattle.fdb_core.proofs.sightings.oldest_of.Goals as goal

pub loop-seen-init : goal.loop-seen-init
loop-seen-init c =
    let tick = c.args.tick in
    let rest = c.into_iter-seen-iterator.ensures.into_iter_gives ∙ c.values-seen-items.ensures.rest in
    let same = ap (oldest_tick tick) rest in
    record {
      all = omega (arith, oldest_not_later tick c.into_iter-seen-iterator.result, same);
      not_later = omega arith;
    }

pub loop-seen-preserved : goal.loop-seen-preserved
loop-seen-preserved c =
    let tick = c.args.tick in
    let step = ap (oldest_tick tick) c.in-Some.ensures.steps in
    record {
      all = omega (arith, step, c.min-oldest.ensures, c.loop-seen.invariant.all);
      not_later = omega (arith, c.min-oldest.ensures, c.loop-seen.invariant.not_later);
    }

pub returns : goal.returns
returns c =
    let tick = c.args.tick in
    let step = ap (oldest_tick tick) c.in-None.ensures.steps.0 in
    omega (arith, step, c.loop-seen.invariant.all, c.loop-seen.invariant.not_later)
