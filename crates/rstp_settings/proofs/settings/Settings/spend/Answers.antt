use Rattle.std.proofs.Common.{◌∙◌, ap, length}
use Rattle.rstp_settings.specs.Table.{Table}
use Rattle.rstp_settings.proofs.Puts.{IsValid-spent, refill_same}
use Rattle.rstp_settings.proofs.settings.Settings.spend.Goals as goal

pub invariant_of-self : goal.invariant_of-self
invariant_of-self c =
    let t : Table = record { bridge = c.self.inside.bridge; ports = c.self.inside.ports.items } in
    let same = c.spend_all.auto.values ∙ ap length c.as_mut_slice.ensures.value in
    rw (refill_same _ _ same, c.spend_all.ensures, c.as_mut_slice.ensures.value) (IsValid-spent t c.self.invariant)
