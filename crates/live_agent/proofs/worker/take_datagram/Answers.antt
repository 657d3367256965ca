use Rattle.std.proofs.Common.{◌≡◌, ◌∙◌, ◌∷◌, [], ap, refl, sym, arith, rules, to_z, of_z, w32}
use Rattle.std.proofs.Math.Facts.{to_z-of_z}
use Rattle.history_core.specs.declared.event.Event.TheVariants as event
use Rattle.wire_core.specs.Acts.{got}
use Rattle.live_sending.specs.Sending.{fault_in}
use Rattle.live_agent.specs.Lines.{request_space}
use Rattle.live_agent.specs.Turns.{was_taken, was_refused}
use Rattle.live_agent.specs.declared.trace.InputFault.TheVariants as refusal
use Rattle.live_agent.proofs.Turning.{happening, amount_is}
use Rattle.live_agent.proofs.Visiting.{taken_deeds}
use Rattle.std.specs.Prelude.{Option}
use Rattle.live_agent.specs.declared.trace.End.{End}
use Rattle.live_agent.specs.Runs.{failures_by}
use Rattle.live_agent.proofs.Failing.{failures_noted}
use Rattle.live_agent.proofs.worker.take_datagram.Goals as goal

pub returns-in-Err-clause-turn : goal.returns-in-Err-clause-turn
returns-in-Err-clause-turn g c = λ a went.
    record {
      turn = was_refused (record { space = request_space; peer = c.args.peer; octets = c.args.octets.now }) (refusal.Datagram c.in-Err.cause);
      is = (refl, c.in-Err.ensures.cause);
      behind = tt;
      acts = g.met.W.GatedWire.acts_are _ _ (got request_space c.args.peer c.args.octets.now ∷ []) went;
      recorded = c.record.ensures;
      amount_is = omega arith;
      ends_so = refl;
    }

pub returns-clause-turn : goal.returns-clause-turn
returns-clause-turn g c = λ a went.
    let s = rw (c.bpdus-bpdus.ensures, c.as_slice-peers.ensures.value, c.reply.ensures.reply) at c.send_outgoing-sent.ensures.sends in
    let t = c.request-applied.ensures in
    let r = c.in-Ok.request in
    let same : to_z w32 (of_z w32 r.id) ≡ r.id = search (rules, to_z-of_z) in
    record {
      turn = was_taken (record { space = request_space; peer = c.args.peer; octets = c.args.octets.now }) (happening (event.Request r) c.args.share.now.amount c.request-applied.result c.request-applied.new.buffer (fault_in c.send_outgoing-sent.result) s.0);
      is = (refl, record { request = r; reads = c.in-Ok.ensures.request; happens = record { event_is = refl; place = t.place; reported = t.reported; sent = s.2 } });
      behind = omega arith;
      acts = taken_deeds g.W.Wire.went g.W.GatedWire.did g.met.W.GatedWire.acts_are g.met.W.GatedWire.deeds_go_on _ _ _ _ _ c.args.line.now.worker (got request_space c.args.peer c.args.octets.now) s.0 _ went c.before-2.ensures.did s.1 (rw (c.audited_of.ensures, same) at c.visit_behind.ensures.did);
      recorded = c.noted.ensures.recorded;
      amount_is = amount_is _ _ c.request-applied.result t.amount;
      ends_so = c.noted.ensures.ends;
    }

pub returns-clause-failures : goal.returns-clause-failures
returns-clause-failures g c =
    let fault = fault_in c.send_outgoing-sent.result in
    c.visit_behind.ensures.kept ∙ c.send_outgoing-sent.ensures.failures ∙ failures_noted c.request-applied.result fault _ ∙ ap (λ (e : Option End). failures_by e (g.W.Wire.failures c.before-2.new.self)) (sym c.noted.ensures.ends) ∙ ap (λ n. failures_by c.noted.result n) c.before-2.ensures.kept
