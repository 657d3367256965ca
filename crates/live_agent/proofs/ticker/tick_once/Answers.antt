use Rattle.std.proofs.Common.{◌∙◌, ap, refl, sym, arith}
use Rattle.history_core.specs.declared.event.Event.TheVariants as event
use Rattle.live_sending.specs.Sending.{fault_in}
use Rattle.live_agent.specs.Turns.{was_own}
use Rattle.live_agent.proofs.Turning.{happening, amount_is}
use Rattle.std.specs.Prelude.{Option}
use Rattle.live_agent.specs.declared.trace.End.{End}
use Rattle.live_agent.specs.Runs.{failures_by}
use Rattle.live_agent.proofs.Failing.{failures_noted}
use Rattle.live_agent.proofs.ticker.tick_once.Goals as goal

pub returns-clause-turn : goal.returns-clause-turn
returns-clause-turn g c =
    let s = rw (c.bpdus-bpdus.ensures, c.as_slice-peers.ensures.value) at c.send_outgoing-sent.ensures.sends in
    let t = c.tick-applied.ensures in
    record {
      turn = was_own (happening event.Tick c.args.share.now.amount c.tick-applied.result c.tick-applied.new.buffer (fault_in c.send_outgoing-sent.result) s.0);
      is = record { event_is = refl; place = t.place; reported = t.reported; sent = s.2 };
      behind = omega arith;
      acts = s.1;
      recorded = c.noted.ensures.recorded;
      amount_is = amount_is _ _ c.tick-applied.result t.amount;
      ends_so = c.noted.ensures.ends;
    }

pub returns-clause-failures : goal.returns-clause-failures
returns-clause-failures g c = c.send_outgoing-sent.ensures.failures ∙ failures_noted c.tick-applied.result (fault_in c.send_outgoing-sent.result) _ ∙ ap (λ (e : Option End). failures_by e (g.W.Wire.failures c.args.wire.now)) (sym c.noted.ensures.ends)
