use Rattle.std.proofs.Common.{sym, subst}
use Rattle.community_core.specs.Communities.{PolicyTables}
use Rattle.setphase_core.specs.declared.world.World.{World}
use Rattle.history_core.specs.Happening.{quiet, Happens}
use Rattle.history_core.specs.declared.event.Event.{Event}
use Rattle.history_core.specs.declared.event.Event.TheVariants as event
use Rattle.history_core.specs.declared.happening.EventOutcome.{EventOutcome}
use Rattle.history_core.proofs.Quiet.{policy_happens}
use Rattle.history_core.proofs.happening.happen.Goals as goal

pub returns-in-Frame-clause-happens : goal.returns-in-Frame-clause-happens
returns-in-Frame-clause-happens g c =
    subst (λ (e : Event). Happens c.args.registry.now c.args.world.now e c.take_frame.new.happened c.args.registry.now c.take_frame.new.world c.take_frame.new.buffer)
    (sym c.in-Frame.is) (c.take_frame.ensures c.args.registry.now)

pub returns-in-Tick-clause-happens : goal.returns-in-Tick-clause-happens
returns-in-Tick-clause-happens g c =
    subst (λ (h : EventOutcome). Happens c.args.registry.now c.args.world.now c.args.event.now h c.args.registry.now c.pass_second.new.world c.pass_second.new.buffer)
    (sym c.requires.quiet)
    (subst (λ (e : Event). Happens c.args.registry.now c.args.world.now e quiet c.args.registry.now c.pass_second.new.world c.pass_second.new.buffer)
    (sym c.in-Tick.is) (c.pass_second.ensures c.args.registry.now))

pub returns-in-Link-clause-happens : goal.returns-in-Link-clause-happens
returns-in-Link-clause-happens g c =
    subst (λ (h : EventOutcome). Happens c.args.registry.now c.args.world.now c.args.event.now h c.args.registry.now c.turn_link.new.world c.turn_link.new.buffer)
    (sym c.requires.quiet)
    (subst (λ (e : Event). Happens c.args.registry.now c.args.world.now e quiet c.args.registry.now c.turn_link.new.world c.turn_link.new.buffer)
    (sym c.in-Link.is) (c.turn_link.ensures c.args.registry.now))

pub returns-in_ok-world-in-Policy-clause-happens : goal.returns-in_ok-world-in-Policy-clause-happens
returns-in_ok-world-in-Policy-clause-happens g c =
    let w = c.args.world.now in
    let copy = c.in_ok-world-in-Policy.field-0 in
    let later : World = record w { policy = copy } in
    subst (λ (e : Event). Happens c.args.registry.now w e c.args.happened.now c.args.registry.now later c.args.buffer.now)
    (sym c.in-Policy.is)
    (subst (λ (tables : PolicyTables). Happens c.args.registry.now w (event.Policy tables) c.args.happened.now c.args.registry.now later c.args.buffer.now)
    c.in_ok-world-in-Policy.ensures (policy_happens c.args.registry.now w copy c.args.buffer.now c.args.happened.now c.requires.quiet c.requires.bpdus c.requires.reply))
