use Rattle.std.proofs.Common.{◌∙◌, ap, refl, sym, arith}
use Rattle.std.specs.Prelude.{true}
use Rattle.history_core.specs.declared.event.Event.TheVariants as event
use Rattle.live_sending.specs.Sending.{fault_in}
use Rattle.live_agent.proofs.Turning.{happening}
use Rattle.std.specs.Prelude.{Option}
use Rattle.live_agent.specs.declared.trace.End.{End}
use Rattle.live_agent.specs.Runs.{failures_by}
use Rattle.live_agent.proofs.Failing.{failures_linked}
use Rattle.live_agent.proofs.port.bring_up.Goals as goal

pub returns-clause-linked : goal.returns-clause-linked
returns-clause-linked g c =
    let s = rw (c.bpdus-bpdus.ensures, c.as_slice-peers.ensures.value) at c.send_outgoing-sent.ensures.sends in
    let t = c.link-applied.ensures in
    record {
      happening = happening (event.Link c.args.line.now.port true) c.args.share.now.amount c.link-applied.result c.link-applied.new.buffer (fault_in c.send_outgoing-sent.result) s.0;
      happens = record { event_is = refl; place = t.place; reported = t.reported; sent = s.2 };
      behind = omega arith;
      acts = s.1;
      recorded = rw c.item_of.ensures at c.record.ensures;
      amount_is = t.amount;
      ends_so = c.end_after_link-ends.ensures;
    }

pub returns-clause-failures : goal.returns-clause-failures
returns-clause-failures g c = c.send_outgoing-sent.ensures.failures ∙ failures_linked c.link-applied.result (fault_in c.send_outgoing-sent.result) _ ∙ ap (λ (e : Option End). failures_by e (g.W.Wire.failures c.args.wire.now)) (sym c.end_after_link-ends.ensures)
