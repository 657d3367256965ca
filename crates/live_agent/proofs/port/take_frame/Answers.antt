use Rattle.std.proofs.Common.{◌∙◌, ap, refl, sym, arith}
use Rattle.history_core.specs.declared.event.Event.TheVariants as event
use Rattle.live_sending.specs.Sending.{fault_in}
use Rattle.live_agent.specs.Lines.{frame_space}
use Rattle.live_agent.specs.Turns.{was_taken, was_refused}
use Rattle.live_agent.specs.declared.trace.InputFault.TheVariants as refusal
use Rattle.live_agent.proofs.Turning.{happening, amount_is}
use Rattle.std.specs.Prelude.{Option}
use Rattle.live_agent.specs.declared.trace.End.{End}
use Rattle.live_agent.specs.Runs.{failures_by}
use Rattle.live_agent.proofs.Failing.{failures_noted}
use Rattle.live_agent.proofs.port.take_frame.Goals as goal

pub returns-in-Err-clause-turn : goal.returns-in-Err-clause-turn
returns-in-Err-clause-turn g c = λ a went.
    record {
      turn = was_refused (record { space = frame_space; peer = c.args.peer; octets = c.args.octets.now }) (refusal.Frame c.in-Err.fault);
      is = (refl, c.in-Err.ensures.fault);
      behind = tt;
      acts = went;
      recorded = c.record.ensures;
      amount_is = omega arith;
      ends_so = refl;
    }

pub returns-clause-turn : goal.returns-clause-turn
returns-clause-turn g c = λ a went.
    let s = rw (c.bpdus-bpdus.ensures, c.as_slice-peers.ensures.value, c.egress_of.ensures) at c.send_outgoing-sent.ensures.sends in
    let t = c.frame-applied.ensures in
    let f = c.in-Ok.frame in
    record {
      turn = was_taken (record { space = frame_space; peer = c.args.peer; octets = c.args.octets.now }) (happening (event.Frame c.args.line.now.port f) c.args.share.now.amount c.frame-applied.result c.frame-applied.new.buffer (fault_in c.send_outgoing-sent.result) s.0);
      is = (refl, record { frame = f; reads = c.in-Ok.ensures.found; happens = record { event_is = refl; place = t.place; reported = t.reported; sent = s.2 } });
      behind = omega arith;
      acts = g.met.W.Wire.goes_on _ _ _ _ _ went s.1;
      recorded = c.noted.ensures.recorded;
      amount_is = amount_is _ _ c.frame-applied.result t.amount;
      ends_so = c.noted.ensures.ends;
    }

pub returns-clause-failures : goal.returns-clause-failures
returns-clause-failures g c = c.send_outgoing-sent.ensures.failures ∙ failures_noted c.frame-applied.result (fault_in c.send_outgoing-sent.result) _ ∙ ap (λ (e : Option End). failures_by e (g.W.Wire.failures c.args.wire.now)) (sym c.noted.ensures.ends)
