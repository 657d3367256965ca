use Rattle.std.proofs.Common.{refl, arith, Some}
use Rattle.history_core.specs.declared.event.Event.TheVariants as event
use Rattle.control_text.specs.Answers.{counts_line, refusal_line}
use Rattle.control_text.specs.declared.command.Command.TheVariants.{Link, Policy}
use Rattle.live_control.specs.Lines.{command_space, counts_of}
use Rattle.live_control.specs.Turns.{was_refused, was_reported, was_done}
use Rattle.live_control.proofs.Turning.{amount_is, answered_by, asks_counts}
use Rattle.live_control.proofs.task.take_command.Goals as goal

pub returns-in-Err-clause-turn : goal.returns-in-Err-clause-turn
returns-in-Err-clause-turn g c = λ a went.
    let refusal = c.in-Err.refusal in
    record {
      turn = was_refused (record { space = command_space; peer = c.args.peer; octets = c.args.octets.now }) refusal (record { text = refusal_line refusal; how = Some c.answer.result });
      is = (refl, record { reads = c.in-Err.ensures; says = refl; stated = refl });
      behind = tt;
      acts = g.met.W.ControlWire.deeds_go_on _ _ _ _ _ went (rw c.say_refusal.ensures at c.answer.ensures.did);
      recorded = c.record.ensures;
      amount_is = omega arith;
      ends_so = c.end_by_reply.ensures;
    }

pub returns-in-Ok-Counts-clause-turn : goal.returns-in-Ok-Counts-clause-turn
returns-in-Ok-Counts-clause-turn g c = λ a went.
    let text = counts_line (counts_of c.dropped.result c.counts-world.result) in
    let how = c.send_text-answered.result in
    let answered = answered_by g.W.ControlWire.did _ _ c.args.peer text c.counts_text-text.result how c.counts_text-text.ensures c.send_text-answered.ensures.some c.send_text-answered.ensures.none in
    record {
      turn = was_reported (record { space = command_space; peer = c.args.peer; octets = c.args.octets.now }) c.args.share.now.amount (record { text = text; how = how });
      is = (refl, record { reads = asks_counts _ (rw c.in-Ok-Counts.field-0-is at c.in-Ok-Counts.ensures); dropped = c.dropped.result; tallied = c.dropped.ensures; world = c.counts-world.result; counted = c.counts-world.ensures.counted; says = refl });
      behind = omega arith;
      acts = g.met.W.ControlWire.deeds_go_on _ _ _ _ _ went answered;
      recorded = c.record-in-Ok-Counts.ensures;
      amount_is = omega (arith, c.counts-world.ensures.amount);
      ends_so = c.end_by_reply-in-Ok-Counts.ensures;
    }

pub returns-in-Ok-Link-clause-turn : goal.returns-in-Ok-Link-clause-turn
returns-in-Ok-Link-clause-turn g c = λ a went.
    let t = c.link-applied.ensures in
    let f = c.finish.ensures.finished in
    let e = event.Link c.in-Ok-Link.port c.in-Ok-Link.up in
    record {
      turn = was_done (record { space = command_space; peer = c.args.peer; octets = c.args.octets.now }) (record { event = e; made = c.args.share.now.amount; applied = c.link-applied.result; buffer = c.link-applied.new.buffer; acts = f.acts; fault = f.fault }) f.reply;
      is = (refl, record { command = Link c.in-Ok-Link.port c.in-Ok-Link.up; reads = rw c.in-Ok-Link.field-0-is at c.in-Ok-Link.ensures; event = e; is = refl; happens = record { event_is = refl; place = t.place; reported = t.reported; sent = f.sent }; says = f.says });
      behind = omega arith;
      acts = g.met.W.ControlWire.deeds_go_on _ _ _ _ _ went f.went;
      recorded = c.finish.ensures.recorded;
      amount_is = amount_is _ _ c.link-applied.result t.amount;
      ends_so = f.ends_so;
    }

pub returns-in-Ok-Policy-clause-turn : goal.returns-in-Ok-Policy-clause-turn
returns-in-Ok-Policy-clause-turn g c = λ a went.
    let t = c.policy-applied.ensures in
    let f = c.finish-in-Ok-Policy.ensures.finished in
    let e = event.Policy c.in-Ok-Policy.policy in
    record {
      turn = was_done (record { space = command_space; peer = c.args.peer; octets = c.args.octets.now }) (record { event = e; made = c.args.share.now.amount; applied = c.policy-applied.result; buffer = c.policy-applied.new.buffer; acts = f.acts; fault = f.fault }) f.reply;
      is = (refl, record { command = Policy c.in-Ok-Policy.policy; reads = rw c.in-Ok-Policy.field-0-is at c.in-Ok-Policy.ensures; event = e; is = refl; happens = record { event_is = refl; place = t.place; reported = t.reported; sent = f.sent }; says = f.says });
      behind = omega arith;
      acts = g.met.W.ControlWire.deeds_go_on _ _ _ _ _ went f.went;
      recorded = c.finish-in-Ok-Policy.ensures.recorded;
      amount_is = amount_is _ _ c.policy-applied.result t.amount;
      ends_so = f.ends_so;
    }
