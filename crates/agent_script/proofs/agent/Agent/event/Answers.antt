use Rattle.std.proofs.Common.{option_map}
use Rattle.agent_script.specs.State.{Agent}
use Rattle.agent_script.proofs.Happenings.{done_adds, dropped_adds, short_adds}
use Rattle.agent_script.proofs.agent.Agent.event.Goals as goal

pub returns-in-Done-clause-stated : goal.returns-in-Done-clause-stated
returns-in-Done-clause-stated g c =
    let a : Agent = record {
      history = c.self.inside.kept;
      is_auditing = c.self.inside.is_auditing;
      drops = c.self.inside.drops;
      policy_lines = option_map (λ v. v.items) c.self.inside.policy_lines;
    } in
    let p = c.in-Done.ensures in
    rw (← c.self.view_is)
    (done_adds a c.args.event c.in-Done.receipt c.in-Done.audit c.apply.new.self c.apply.new.buffer p.2
    c.args.out.now.items c.say_receipt.new.out.items c.say_bpdus.new.out.items c.world.result.now c.address_of-address.result c.bpdus.result.now
    c.entries.result.now c.has_space.result p.1 c.world.ensures c.address_of-address.ensures c.in_ok-say_receipt-in-Done.ensures c.bpdus.ensures
    c.in_ok-say_bpdus-in-Done.ensures c.entries.ensures c.has_space.ensures)

pub returns-in-Dropped-clause-stated : goal.returns-in-Dropped-clause-stated
returns-in-Dropped-clause-stated g c =
    let a : Agent = record {
      history = c.self.inside.kept;
      is_auditing = c.self.inside.is_auditing;
      drops = c.self.inside.drops;
      policy_lines = option_map (λ v. v.items) c.self.inside.policy_lines;
    } in
    let p = c.in-Dropped.ensures in
    rw (← c.self.view_is)
    (dropped_adds a c.args.event c.in-Dropped.field-0 _ c.apply.new.self c.apply.new.buffer p.2
    c.args.out.now.items c.say_dropped.new.out.items c.in-Dropped.cause c.entries-in-Dropped.result.now c.has_space-in-Dropped.result p.1
    c.in_ok-say_dropped-in-Dropped.ensures c.entries-in-Dropped.ensures c.has_space-in-Dropped.ensures)

pub returns-in-Short-clause-stated : goal.returns-in-Short-clause-stated
returns-in-Short-clause-stated g c =
    let a : Agent = record {
      history = c.self.inside.kept;
      is_auditing = c.self.inside.is_auditing;
      drops = c.self.inside.drops;
      policy_lines = option_map (λ v. v.items) c.self.inside.policy_lines;
    } in
    let p = c.in-Short.ensures in
    rw (← c.self.view_is)
    (short_adds a c.args.event c.reply.result.now c.apply.new.buffer.reply c.args.out.now.items c.say_short.new.out.items c.apply.new.self
    p.1 p.3 p.4 c.reply.ensures.reply c.in_ok-say_short-in-Short.ensures)
