use Rattle.std.proofs.Common.{◌≢◌, ◌∙◌, ◌<◌, ◌^◌, sym, ap, subst, arith}
use Rattle.history_core.specs.declared.event.Event.{Event}
use Rattle.history_core.specs.History.{History, next_of, last_number, Applies}
use Rattle.history_core.specs.Keeping.{due_base, entry_of}
use Rattle.history_core.specs.declared.applied.Applied.{Applied}
use Rattle.history_core.proofs.Applying.{left-ok, applies-ok}
use Rattle.history_core.proofs.kept.Kept.apply_duplicated.Goals as goal

pub invariant_of-self-2 : goal.invariant_of-self-2
invariant_of-self-2 g c =
    let k = c.self.inside in
    let h : History = record { first = k.first; base_number = k.base_number; base = k.base.value; entries = k.entries; world = k.world; objects = k.registry } in
    let number = c.next_number-number.ensures ∙ ap next_of (sym c.self.view_is) in
    let other : next_of h ≢ last_number = (λ e. c.if-number.false (number ∙ e)) in
    let below : next_of h < 2 ^ 64 = c.self.invariant.fits in
    let base = c.in-Ok.ensures.base ∙ ap due_base (sym c.self.view_is) in
    let made = c.made_of-entry.ensures.entry ∙ ap (λ (e : Event). entry_of e c.happen.new.happened) c.parted-kept_event.ensures.kept in
    let t = left-ok h c.args.event c.happen.new.happened _ _ _ _ _ _ _ _ _ c.self.invariant number (omega (arith, below, other)) base c.in-Ok-happen.ensures.happens made c.enter.ensures in
    t.1

pub returns : goal.returns
returns g c =
    let k = c.self.inside in
    let h : History = record { first = k.first; base_number = k.base_number; base = k.base.value; entries = k.entries; world = k.world; objects = k.registry } in
    let later : History = record { first = k.first; base_number = c.enter.new.base_number; base = c.enter.new.base.value; entries = c.enter.new.entries; world = c.happen.new.world; objects = c.happen.new.registry } in
    let number = c.next_number-number.ensures ∙ ap next_of (sym c.self.view_is) in
    let other : next_of h ≢ last_number = (λ e. c.if-number.false (number ∙ e)) in
    let most : next_of h < 2 ^ 64 = c.self.invariant.fits in
    let below : next_of h < last_number = omega (arith, most, other) in
    let base = c.in-Ok.ensures.base ∙ ap due_base (sym c.self.view_is) in
    let happens = c.in-Ok-happen.ensures.happens in
    let made = c.made_of-entry.ensures.entry ∙ ap (λ (e : Event). entry_of e c.happen.new.happened) c.parted-kept_event.ensures.kept in
    let t = left-ok h c.args.event c.happen.new.happened _ _ _ _ _ _ _ _ _ c.self.invariant number below base happens made c.enter.ensures in
    let applied = applies-ok h c.args.event c.happen.new.happened c.happen.new.world c.happen.new.registry c.happen.new.buffer c.next_number-number.result c.parted-kept_event.result.1 c.made_of-entry.result.receipt c.made_of-entry.result.audit later
    below happens number c.parted-kept_event.ensures.reported c.made_of-entry.ensures.receipt c.made_of-entry.ensures.audit t.0 in
    subst (λ (x : History). Applies x c.args.event c.applied.result later c.happen.new.buffer) c.self.view_is
    (subst (λ (x : Applied). Applies h c.args.event x later c.happen.new.buffer) (sym c.applied.ensures) applied)
