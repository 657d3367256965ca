use Rattle.std.proofs.Common.{arith, ◌∙◌}
use Rattle.rstp_rules.specs.Sends.{bpdu_of, after_sending}
use Rattle.rstp_core.proofs.Steps.{map_step, out_step}
use Rattle.rstp_core.proofs.loops.send_all.Goals as goal

pub loop-row-preserved : goal.loop-row-preserved
loop-row-preserved c =
    let f = after_sending c.args.context.now in
    let g = bpdu_of c.args.context.now in
    record {
      rows = map_step f _ _ _ _ _ (omega arith) c.loop-row.auto.rows c.loop-row.invariant.rows c.send.ensures.port;
      bpdus = c.push.ensures.items ∙ out_step f g _ _ _ _ _ _ (omega arith) c.loop-row.auto.rows c.loop-row.invariant.rows c.loop-row.invariant.bpdus c.send.ensures.bpdu;
      few = omega (arith, c.push.ensures.len);
    }
