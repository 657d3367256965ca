use Rattle.std.proofs.Common.{length, take, ap, arith}
use Rattle.std.proofs.lemmas.List.{length-take-le}
use Rattle.vacm_core.specs.Trees.{view_way}
use Rattle.vacm_core.proofs.FamilyWays.{steps_more, way_long}
use Rattle.vacm_core.proofs.families.put_way.Goals as goal

pub loop-k-preserved : goal.loop-k-preserved
loop-k-preserved c =
    let row = c.args.row.now in
    let so = c.loop-k.invariant in
    record {
      mask = so.mask;
      parts = so.parts;
      steps = steps_more (view_way row.view) row.mask row.subtree c.as_slice-mask.result.now c.as_slice-part-items.result.now c.loop-k.k c.mask_bit.result
          c.loop-k.way.items c.push-in-loop-k.new.self.items so.mask so.parts c.mask_bit.ensures c.loop-k-test.true so.steps c.push-in-loop-k.ensures.items;
    }

pub push-requires-in-loop-k : goal.push-requires-in-loop-k
push-requires-in-loop-k c =
    let row = c.args.row.now in
    let so = c.loop-k.invariant in
    let parts = c.as_slice-part-items.ensures in
    let some = length-take-le c.loop-k.k row.subtree (omega (arith, c.loop-k-test.true, ap length so.parts)) in
    omega (arith, ap length so.steps, way_long row.view row.mask (take c.loop-k.k row.subtree), some, c.as_bytes-view.ensures.short, parts.most, c.loop-k-test.true, ap length so.parts)
