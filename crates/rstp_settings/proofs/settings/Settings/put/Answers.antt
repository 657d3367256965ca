use Rattle.std.proofs.Common.{◌≡◌, ◌-◌, List, length, slice_set, arith, sym, ◌∙◌, ap}
use Rattle.rstp_settings.specs.Table.{Table, put, IsInRange, HasKey}
use Rattle.rstp_settings.specs.declared.key.Key.TheVariants.{Bridge, Port}
use Rattle.std.proofs.lemmas.List.{length-set}
use Rattle.rstp_settings.proofs.Puts.{IsValid-put, refill_same}
use Rattle.rstp_settings.proofs.settings.Settings.put.Goals as goal

pub invariant_of-self : goal.invariant_of-self
invariant_of-self c =
    let t : Table = record { bridge = c.self.inside.bridge; ports = c.self.inside.ports.items } in
    rw c.put.ensures (IsValid-put t (Bridge c.in-Bridge.key) c.args.value c.self.invariant tt (rw c.in-Bridge.is at c.requires.value))

pub invariant_of-self-in-Port : goal.invariant_of-self-in-Port
invariant_of-self-in-Port c =
    let t : Table = record { bridge = c.self.inside.bridge; ports = c.self.inside.ports.items } in
    let has = rw (← c.self.view_is, c.in-Port.is) at c.requires.key in
    let valid = IsValid-put t (Port c.in-Port.port c.in-Port.key) c.args.value c.self.invariant has (rw c.in-Port.is at c.requires.value) in
    let same : length (slice_set c.deref_mut.result.now (c.in-Port.port - 1) c.put-in-Port.new.self) ≡ length c.self.inside.ports.items = length-set _ _ _ ∙ ap length c.deref_mut.ensures.value in
    rw (refill_same _ _ same, c.put-in-Port.ensures, c.deref_mut.ensures.value) valid
